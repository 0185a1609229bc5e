pub mod Dealt
mod Given
pub mod Unframed
mod Streams
pub mod Kept
pub mod Answering
pub mod Ends
pub mod Told
pub mod Agreeing
pub mod Addresses
mod Moves
pub mod Same
mod Few
mod Lacking
mod Taking
mod Prompt
mod Early
pub mod Replied
pub mod Room
pub mod Front
pub mod There
pub mod Costs
