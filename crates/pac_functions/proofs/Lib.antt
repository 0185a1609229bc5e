pub mod Labels
pub mod Asking
