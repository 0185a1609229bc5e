pub mod Runs
pub mod Reports
pub mod Mapping
pub mod Ends
pub mod Resolving
pub mod Named
pub mod Laws
