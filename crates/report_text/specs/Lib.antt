pub mod Report
pub mod Draft
