mod Below
mod Blocks
mod Lists
mod Naming
mod Spelling
mod Staying
mod Telling
pub mod OnePage
