pub mod FullParts
pub mod Inside
pub mod Puts
pub mod Searching
pub mod Splits
pub mod Texts
