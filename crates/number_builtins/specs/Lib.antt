pub mod Call
pub mod Math
pub mod Numerals
pub mod Parsing
