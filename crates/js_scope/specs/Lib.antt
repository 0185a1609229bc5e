pub mod Functions
pub mod Gives
pub mod Nested
pub mod Parts
