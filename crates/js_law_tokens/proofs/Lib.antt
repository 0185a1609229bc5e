pub mod Keeping
pub mod KeptTokens
pub mod Lists
pub mod Nodes
pub mod Operators
pub mod Parts
pub mod Rows
pub mod Steps
