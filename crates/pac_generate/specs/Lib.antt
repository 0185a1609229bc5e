pub mod Numbers
pub mod Names
pub mod Generated
pub mod Answered
pub mod MapLink
pub mod Summary
pub mod Examples
