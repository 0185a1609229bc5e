pub mod Charges
pub mod Given
