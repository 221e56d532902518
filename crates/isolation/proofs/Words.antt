-- Bytes and words, and what a hart does next.
pub mod Bytes
pub mod Laying
pub mod BytesKept
pub mod NextWord
pub mod Decoding
