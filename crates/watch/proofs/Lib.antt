mod Requests
mod Batches
mod Tracing
mod RowLines
mod Counted
mod Arrivals
mod CoreAsks
mod Freed
mod AskedTurns
mod Freshness
mod Services
mod ServedLines
mod PutTurns
mod Capping
mod Few
mod Pending
mod Plain
mod Sending
mod Sent
mod Tallying
mod Zeros
pub mod SameTexts
pub mod OneCount
