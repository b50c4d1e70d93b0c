pub mod Accepts
pub mod Called
pub mod Fields
pub mod Taken
pub mod Within
