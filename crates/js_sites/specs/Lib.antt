pub mod Examples
pub mod Program
pub mod Sites
