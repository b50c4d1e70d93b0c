pub mod After
pub mod Chosen
pub mod Ended
pub mod Input
pub mod Least
pub mod Loops
pub mod Processes
