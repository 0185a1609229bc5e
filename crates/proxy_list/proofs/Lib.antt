pub mod Cuts
pub mod Ports
pub mod Examples
