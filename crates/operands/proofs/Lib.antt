pub mod Begin
pub mod Layouts
