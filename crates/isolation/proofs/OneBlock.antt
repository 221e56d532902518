pub mod Model
pub mod Invariant
pub mod Rows
pub mod Steps
pub mod Facts
pub mod Uses
