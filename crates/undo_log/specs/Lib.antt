pub mod Value
pub mod Bytes
pub mod Log
pub mod Undo
