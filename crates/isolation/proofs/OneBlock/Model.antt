-- The block's state, and its steps.
pub mod State
pub mod Core
pub mod Messages
pub mod Directory
pub mod Step
pub mod Start
