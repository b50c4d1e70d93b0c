pub mod Asking
pub mod Turns
pub mod Begun
pub mod Unfinished
