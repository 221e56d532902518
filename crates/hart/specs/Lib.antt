pub mod Parts
pub mod Shown
pub mod Rows
pub mod Locals
pub mod Places
pub mod Staying
