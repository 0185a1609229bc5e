pub mod Slots
pub mod Forms
pub mod TableRows
pub mod Layers
pub mod Object
pub mod Scope
pub mod Keys
