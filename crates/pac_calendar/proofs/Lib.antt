pub mod Forms
pub mod Unique
