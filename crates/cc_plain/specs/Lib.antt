pub mod View
pub mod Earliest
