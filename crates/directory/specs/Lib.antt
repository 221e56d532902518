pub mod Blocks
pub mod Entries
pub mod Sends
