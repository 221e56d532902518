pub mod Layouts
pub mod Passes
pub mod Programs
pub mod Progress
