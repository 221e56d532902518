-- Every step, from the start.
pub mod Starting
pub mod StepNext
