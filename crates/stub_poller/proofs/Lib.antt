pub mod Ages
pub mod FlightLists
pub mod Showing
pub mod Driving
pub mod Falling
pub mod Truncating
pub mod Rows
