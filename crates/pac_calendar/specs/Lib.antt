pub mod Argument
pub mod Civil
pub mod Dates
pub mod Order
pub mod Times
pub mod Weekdays
pub mod Zone
