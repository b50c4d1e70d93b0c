pub mod Bytes
pub mod Name
pub mod Pieces
pub mod Reading
pub mod Spells
pub mod TokenList
pub mod Words
