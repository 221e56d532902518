-- Each row, at the hart that moves and at each other.
pub mod Quiet
pub mod ValueStays
pub mod ValueStaysRows
pub mod ValueChanges
pub mod ValueChangesRows
pub mod Answers
pub mod Expected
pub mod Senders
pub mod Ends
pub mod Gets
pub mod Dones
