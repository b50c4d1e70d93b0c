-- what a kernel is to its callers
pub mod Contract
-- the lists of this crate: seats, pending calls, served calls
pub mod Lists
-- the seats of the processes, and the calls that they serve
pub mod Seats
-- the calls that each process serves, as a stack
pub mod Stacks
-- what the seats keep beside them: counts, and who is ready
pub mod Counted
-- what is kept of a state, and when it is the state that the machine is in
pub mod Store
-- when a kernel is one
pub mod Invariant
-- which pending calls may be taken, as the lists tell it
pub mod Choice
-- the pending calls, with who waits for each
pub mod Asked
-- who can take nothing
pub mod Resting
-- what settling does
pub mod Settles
-- requests without a deadline
pub mod Untimed
-- the deadlines that stand, as they are kept
pub mod Timed
-- when a process that waits until a moment goes on
pub mod Due
