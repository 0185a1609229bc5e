pub mod Calls
pub mod Readying
