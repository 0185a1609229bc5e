pub mod Lines
pub mod Nodes
pub mod Rows
pub mod Tokens
