pub mod Restoring
pub mod Words
pub mod Listed
pub mod Blank
