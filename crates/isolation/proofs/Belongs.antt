-- A machine and the flat state that belongs to it.
pub mod Belonging
pub mod RetiredWords
