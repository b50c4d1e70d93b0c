pub mod Names
pub mod Mentions
pub mod Seen
pub mod Plains
pub mod PlainLists
pub mod Laws
