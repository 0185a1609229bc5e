pub mod Entering
pub mod Properties
pub mod Steps
