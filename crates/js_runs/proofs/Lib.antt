pub mod Calling
pub mod Loops
pub mod Waiting
