pub mod Names
pub mod Properties
pub mod Places
pub mod Elements
