pub mod Alike
pub mod Derivations
pub mod Expressions
pub mod Moves
pub mod Scripts
pub mod Statements
pub mod Words
