pub mod Names
pub mod Harts
pub mod Flights
pub mod Memory
pub mod Moments
pub mod Told
pub mod Pages
pub mod Form
