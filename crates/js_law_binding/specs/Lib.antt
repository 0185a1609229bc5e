pub mod Environments
pub mod Laws
pub mod Rules
