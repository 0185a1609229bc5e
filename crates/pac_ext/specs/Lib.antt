pub mod Examples
pub mod Groups
pub mod Prefixes
pub mod Reading
pub mod Rows
pub mod Writing
