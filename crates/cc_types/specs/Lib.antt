pub mod Scenes
pub mod Parts
pub mod Checkers
pub mod Judging
pub mod Naming
pub mod Making
pub mod Passing
