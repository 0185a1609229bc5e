pub mod Examples
pub mod Fits
pub mod Names
pub mod Numbered
pub mod Numbers
pub mod Resolved
pub mod Scopes
pub mod Source
