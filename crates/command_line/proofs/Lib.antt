pub mod Values
pub mod Commands
pub mod Filled
pub mod Levels
pub mod Taken
