pub mod Exit
pub mod Plan
pub mod Follows
pub mod Complete
pub mod Order
pub mod Serves
pub mod OutputView
