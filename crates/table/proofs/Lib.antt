pub mod Encoding
pub mod Keys
pub mod Legal
pub mod OneRow
pub mod OneWord
pub mod Slots
