pub mod Addresses
pub mod Members
pub mod Reading
pub mod Reported
