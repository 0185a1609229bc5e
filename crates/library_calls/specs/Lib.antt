pub mod Told
pub mod Zones
pub mod Settings
pub mod Inputs
pub mod Finding
pub mod Checking
pub mod Listing
pub mod Laws
