pub mod Deadlines
pub mod Tree
pub mod TreeFalls
