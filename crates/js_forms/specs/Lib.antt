pub mod Places
pub mod Pieces
pub mod Forms
pub mod Examples
