pub mod Reading
pub mod Starting
pub mod Searching
mod Witnessing
mod Finding
pub mod Refusing
pub mod Performing
pub mod Quoting
pub mod Telling
pub mod Buffering
pub mod Determined
pub mod Numbered
