pub mod Asked
pub mod Steps
pub mod Begin
pub mod Plans
pub mod Answered
