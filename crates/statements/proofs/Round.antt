pub mod Tokens
pub mod Lines
pub mod Numbers
pub mod Operands
pub mod Lists
pub mod Instructions
pub mod Rows
pub mod Words
