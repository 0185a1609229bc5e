pub mod Counting
pub mod Logs
pub mod Owing
pub mod Waiting
pub mod Made
pub mod Reading
pub mod Turns
pub mod Kept
