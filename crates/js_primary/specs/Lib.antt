pub mod Calls
pub mod Creation
pub mod Functions
