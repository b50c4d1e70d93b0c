pub mod CodeWalks
pub mod Keys
pub mod Numbers
pub mod PlainCode
pub mod PlainRows
pub mod Walks
