mod Words
mod Reading
pub mod Walking
mod Finding
mod Drawing
mod Resting
pub mod Again
mod Naming
pub mod Making
pub mod Going
mod Evicting
pub mod Seeing
pub mod Taken
pub mod Lengths
mod Batches
mod LineWords
mod Spelled
pub mod Texts
pub mod Readable
mod Repeats
pub mod OneRun
