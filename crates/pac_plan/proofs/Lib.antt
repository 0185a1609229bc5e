pub mod Counts
pub mod Completes
pub mod Turns
pub mod Served
pub mod GivesUp
