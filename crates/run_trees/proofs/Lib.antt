pub mod Names
pub mod Kept
pub mod Walking
pub mod Answering
pub mod Restarting
pub mod Ending
pub mod Few
pub mod Steps
