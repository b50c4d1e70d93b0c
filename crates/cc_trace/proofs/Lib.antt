pub mod Decimals
pub mod Tables
pub mod Lines
pub mod Texts
pub mod Newlines
