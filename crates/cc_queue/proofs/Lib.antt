pub mod Best
pub mod Keeping
pub mod Linked
pub mod Nearest
pub mod Ordered
pub mod Slots
pub mod Unlinked
pub mod Views
