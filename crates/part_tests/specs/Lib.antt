pub mod Programs
pub mod Examples
pub mod Sharing
pub mod Conflicts
pub mod Aborts
pub mod Spills
pub mod Nesting
pub mod Atomics
