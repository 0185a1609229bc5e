pub mod Asking
pub mod Closes
