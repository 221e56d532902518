-- For users: states that are written in another way, and an access as steps.
pub mod SameStates
pub mod AccessSteps
