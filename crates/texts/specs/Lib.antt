pub mod Numerals
pub mod Puts
pub mod Numbers
