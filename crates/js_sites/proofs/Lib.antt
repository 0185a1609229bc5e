pub mod Inlining
pub mod Numbering
