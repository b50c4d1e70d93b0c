pub mod Calls
pub mod Chains
pub mod Choice
pub mod Kept
pub mod Room
