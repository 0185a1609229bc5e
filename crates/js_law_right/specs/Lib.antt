pub mod Anonymous
pub mod EachIn
pub mod Examples
pub mod Laws
pub mod Right
pub mod Unbound
