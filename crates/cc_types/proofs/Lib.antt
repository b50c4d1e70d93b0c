pub mod Parting
pub mod Judging
pub mod Naming
pub mod Clauses
pub mod Stays
pub mod Makings
pub mod Entered
pub mod Passings
