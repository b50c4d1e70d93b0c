pub mod Beginnings
pub mod Behind
pub mod Depth
pub mod Laws
pub mod Words
