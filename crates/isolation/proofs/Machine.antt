-- Messages by slot, both machines at one block, the invariant, and what it says of harts, requests, slots, lines and transactions.
pub mod Slots
pub mod Sends
pub mod World
pub mod Invariant
pub mod Readings
pub mod EmptySlots
pub mod Tables
pub mod Transactions
