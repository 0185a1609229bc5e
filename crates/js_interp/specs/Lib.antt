pub mod Endings
pub mod Runs
pub mod Answers
pub mod Loads
pub mod ImageAnswers
