pub mod Settings
pub mod Keys
pub mod Chosen
pub mod Splits
