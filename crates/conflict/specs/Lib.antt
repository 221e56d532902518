pub mod Requests
pub mod Answers
