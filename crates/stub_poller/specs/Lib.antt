pub mod State
pub mod Slots
pub mod Ready
pub mod Lending
pub mod Shows
pub mod Driven
