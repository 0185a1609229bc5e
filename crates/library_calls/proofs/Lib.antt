pub mod Reading
pub mod Found
pub mod Zones
pub mod Saying
pub mod Wanting
mod Urls
