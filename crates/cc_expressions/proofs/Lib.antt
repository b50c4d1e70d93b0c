pub mod Expand
pub mod Turns
