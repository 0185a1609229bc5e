pub mod Making
pub mod Placing
