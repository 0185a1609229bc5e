pub mod Commas
pub mod Costs
pub mod Rows
pub mod Suffixes
