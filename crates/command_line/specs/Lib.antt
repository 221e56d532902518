pub mod Command
pub mod Mixes
pub mod Runs
pub mod Reading
