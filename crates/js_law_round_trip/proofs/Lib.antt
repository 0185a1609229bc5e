pub mod Lined
pub mod RoundTrip
pub mod SpellableTokens
