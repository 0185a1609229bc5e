pub mod AtOnce
pub mod Binary
pub mod Instances
pub mod Nodes
pub mod Objects
pub mod References
pub mod SuffixSteps
pub mod Wholes
