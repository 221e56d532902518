pub mod Parts
pub mod Entries
pub mod Words
pub mod Blocks
pub mod Messages
pub mod Registers
pub mod Reports
pub mod Statuses
