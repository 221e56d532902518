pub mod AsciiText
pub mod Decimals
pub mod Digits
pub mod Fronts
pub mod Pieces
pub mod Putting
pub mod Parsed
