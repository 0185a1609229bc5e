pub mod Asked
pub mod Sessions
pub mod Laws
pub mod Examples
