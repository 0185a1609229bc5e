pub mod Days
pub mod Instants
