pub mod AsideScripts
pub mod FirstLine
pub mod PlacelessParts
