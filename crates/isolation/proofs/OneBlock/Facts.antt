-- All that follows from the invariant.
pub mod InPlaceFacts
pub mod RequestFacts
pub mod AskerFacts
pub mod LineFacts
pub mod AckFacts
pub mod SetFacts
pub mod ValueFacts
pub mod ReasonFacts
pub mod FreeFacts
pub mod Runs
pub mod BusyFacts
pub mod UnreachableFacts
