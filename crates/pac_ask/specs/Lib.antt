pub mod Task
pub mod Standing
pub mod OneName
pub mod Talks
pub mod Ask
pub mod Laws
