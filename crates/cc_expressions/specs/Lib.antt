pub mod Nests
pub mod Steps
pub mod Turns
