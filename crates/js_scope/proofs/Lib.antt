pub mod Fitting
pub mod Numbering
pub mod Passing
pub mod Trees
