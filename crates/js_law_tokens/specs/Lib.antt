pub mod BareTokens
pub mod Examples
pub mod Laws
