pub mod Checks
pub mod Elf
pub mod Faults
pub mod Headers
pub mod Programs
pub mod Writing
pub mod Memory
