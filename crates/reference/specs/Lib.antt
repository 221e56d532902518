pub mod States
pub mod Machines
pub mod Overlays
pub mod Samples
