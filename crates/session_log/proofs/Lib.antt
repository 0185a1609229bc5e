pub mod Asking
pub mod Orders
pub mod Ends
pub mod Totals
