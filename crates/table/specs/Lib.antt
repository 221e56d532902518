pub mod Atomics
pub mod Effects
pub mod Groups
pub mod Numbers
pub mod Program
pub mod Slots
pub mod Table
