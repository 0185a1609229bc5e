pub mod Assignments
pub mod Operators
pub mod Primitives
pub mod Rows
pub mod Suffixes
