pub mod Comments
pub mod Cuts
pub mod Digits
pub mod LexLoop
pub mod Lines
pub mod Placed
pub mod TextLoop
mod Keywords
mod Runs
