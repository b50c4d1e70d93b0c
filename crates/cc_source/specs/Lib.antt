-- what a phrase does, on values
pub mod Meaning
-- phrases in a list
pub mod Lists
-- what a program means
pub mod Programs
-- straight phrases and programs, and what each value of `Early` means
pub mod Straight
pub mod Early
-- what evaluating a phrase on cells gives
pub mod Gives
-- programs whose requests were taken by hand
pub mod Examples
-- straight phrases give values of their types, and ask what can be performed
pub mod Known
pub mod Safe
pub mod Asks
pub mod Projections
pub mod Lawful
