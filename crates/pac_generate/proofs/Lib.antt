pub mod Below
pub mod NameLaws
pub mod StepLaws
pub mod Pieces
pub mod Asked
pub mod LogLaws
