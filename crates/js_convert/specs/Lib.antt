pub mod Numeric
pub mod Operators
pub mod Texts
pub mod Units
