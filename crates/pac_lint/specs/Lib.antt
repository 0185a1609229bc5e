pub mod Listing
pub mod Plans
