-- programs that are written out by hand, with their runs
pub mod Worked
-- programs that follow a table
pub mod Tables
-- laws of both
pub mod lemmas
-- a ring of processes that call one another
pub mod Ring
-- programs that follow a table and may wait
pub mod Delays
