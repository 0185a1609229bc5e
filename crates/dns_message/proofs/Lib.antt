pub mod Chains
pub mod QueryLaws
pub mod Records
pub mod Replies
pub mod RoundTrip
pub mod CutResponses
pub mod Writes
