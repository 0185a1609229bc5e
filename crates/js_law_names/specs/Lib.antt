pub mod Examples
pub mod Laws
pub mod LookUps
pub mod Writes
