pub mod Counts
pub mod Grown
mod Names
mod Pieces
pub mod Scripts
