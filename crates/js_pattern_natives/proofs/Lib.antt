pub mod Pieces
pub mod Searches
pub mod States
pub mod Works
