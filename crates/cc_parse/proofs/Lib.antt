pub mod Answered
pub mod Expand
pub mod Stopped
