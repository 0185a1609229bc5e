pub mod Arguments
pub mod Call
pub mod Joining
pub mod Parts
pub mod Places
pub mod Replacing
pub mod Splitting
