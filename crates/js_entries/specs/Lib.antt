pub mod Entries
pub mod Globals
pub mod Names
