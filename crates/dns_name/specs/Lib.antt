pub mod Walk
pub mod Wire
pub mod Writing
