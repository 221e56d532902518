mod Blanks
mod Noted
mod Fitting
mod Resolved
mod Laid
mod Changed
mod Owns
mod Lists
mod Alone
mod Together
mod Copies
mod Turned
mod Same
mod Kept
mod Pooled
mod Searched
mod Led
mod Added
mod Expanded
mod Listed
mod Traced
mod Begun
mod Found
pub mod Members
pub mod Ascending
pub mod SameEnds
pub mod Told
pub mod KeptEnds
pub mod Gathered
