pub mod Texts
pub mod Addresses
pub mod Families
pub mod Call
pub mod Comes
pub mod Examples
