mod Places
mod Changed
mod Sending
pub mod Made
mod OneMessage
pub mod Twins
pub mod TwinReads
pub mod OneTurn
mod Acting
mod Staying
mod Sound
mod Steps
mod Deliveries
mod Peeked
mod Taken
mod Served
mod Blocks
mod Beginning
mod Cores
mod Counting
mod Runs
mod Reading
mod Scans
mod Seats
mod InPlace
mod Answered
pub mod Arriving
pub mod Asked
mod Logs
mod Turning
mod Oldest
mod Naming
pub mod Returning
pub mod Quiescence
pub mod Plain
mod Enabled
mod Ending
mod Alone
mod Requests
mod InTurn
