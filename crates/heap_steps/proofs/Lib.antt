pub mod Bounds
pub mod Chains
pub mod Fixed
pub mod Lists
pub mod Operators
