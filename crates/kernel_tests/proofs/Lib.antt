mod Scripted
mod Calm
mod WorkedWell
