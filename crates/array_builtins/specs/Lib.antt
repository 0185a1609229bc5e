pub mod Steps
pub mod Elements
pub mod Arguments
pub mod Ends
pub mod Parts
pub mod Splicing
pub mod Order
pub mod Places
pub mod Joining
pub mod Call
mod Examples
