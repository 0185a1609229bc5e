pub mod Passing
pub mod Rooms
