pub mod Alone
pub mod Ends
pub mod Forwards
pub mod Kept
pub mod OneKept
