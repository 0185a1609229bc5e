pub mod Numbers
pub mod Ends
pub mod Counting
pub mod Summed
