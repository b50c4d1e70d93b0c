-- what contracts see of the lists of this crate
pub mod Lists
-- what a state is
pub mod State
-- what comes of each request
pub mod Effects
-- which call is taken, and which alternative without a call
pub mod Choice
-- complete, due, unsettled, stuck
pub mod Ends
-- when an event is legal, and what it does
pub mod Events
-- runs, their turns, what they print, settled runs
pub mod Runs
-- how a run stands
pub mod Standing
-- the processes that were stopped by a fault
pub mod Faulted
-- a run that ends well, and one that is cut short in a Print
pub mod Stops
-- what holds of every state of a run
pub mod Sound
-- what holds of a call that is accepted
pub mod Accepted
-- when two meanings are one program to the machine
pub mod Alike
