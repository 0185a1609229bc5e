pub mod Attempts
pub mod Loops
pub mod Switches
