pub mod Answers
pub mod Seen
pub mod Codes
pub mod Examples
