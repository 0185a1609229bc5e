pub mod Numbers
pub mod Talks
pub mod Laws
