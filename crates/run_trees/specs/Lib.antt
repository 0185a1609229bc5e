pub mod RunTree
pub mod WholeRun
pub mod Runs
pub mod OneEnd
pub mod Laws
pub mod Examples
