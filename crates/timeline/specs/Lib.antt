pub mod Marks
pub mod Events
pub mod Timelines
pub mod Rows
pub mod Shapes
pub mod Drawings
pub mod Pictures
pub mod Notes
