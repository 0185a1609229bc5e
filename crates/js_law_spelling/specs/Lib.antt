pub mod Examples
pub mod Laws
pub mod Lined
pub mod PieceExamples
pub mod Spellable
