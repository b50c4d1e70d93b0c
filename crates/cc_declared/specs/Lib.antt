pub mod Announcing
pub mod Entering
pub mod Lists
pub mod Undone
pub mod Walks
