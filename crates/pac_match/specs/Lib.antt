pub mod Fitting
pub mod Matching
