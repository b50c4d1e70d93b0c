pub mod Sizes
pub mod Formed
pub mod Fits
pub mod Typing
pub mod Examples
