pub mod Examples
pub mod Frames
pub mod Laws
pub mod Reading
