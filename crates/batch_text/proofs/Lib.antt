pub mod Batches
pub mod Cuts
mod Examples
pub mod Moments
pub mod Texts
pub mod Telling
