pub mod Lengths
pub mod Programs
pub mod Stepping
pub mod Laws
pub mod Generated
pub mod GeneratedLog
pub mod Terms
