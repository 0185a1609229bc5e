pub mod Runs
pub mod Calls
pub mod Ends
pub mod Loads
