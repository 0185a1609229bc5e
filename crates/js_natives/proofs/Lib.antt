pub mod Charging
pub mod Elements
pub mod Parts
