mod Functions
mod Keeps
mod KeptTrees
pub mod RightLaw
mod Same
mod SameTrees
