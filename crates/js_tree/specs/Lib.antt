pub mod Code
pub mod Parts
pub mod Script
pub mod Size
pub mod Smaller
pub mod Tree
pub mod View
