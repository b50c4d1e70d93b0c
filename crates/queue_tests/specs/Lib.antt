pub mod ByFirst
