pub mod Leases
pub mod Histories
pub mod Boards
pub mod Visits
pub mod Ends
pub mod Turns
