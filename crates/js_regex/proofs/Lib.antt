pub mod Counts
pub mod Finds
pub mod GroupCounts
pub mod Lists
pub mod Runs
pub mod SingleTurns
pub mod Steps
pub mod WithinText
