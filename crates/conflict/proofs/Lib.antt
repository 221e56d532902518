pub mod Equal
pub mod Answering
