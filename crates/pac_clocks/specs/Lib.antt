pub mod Clocks
pub mod Examples
