pub mod Behind
pub mod Operators
