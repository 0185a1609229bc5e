pub mod Keywords
pub mod Texts
