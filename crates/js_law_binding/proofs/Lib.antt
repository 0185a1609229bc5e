pub mod Bounds
pub mod FitsLaw
pub mod Keeps
pub mod LookUps
pub mod NameRules
pub mod ReadsLaw
pub mod SourceLaw
