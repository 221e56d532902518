-- Each step keeps the invariant.
pub mod FromOneHart
pub mod KeepsOwn
pub mod KeepsMessages
pub mod KeepsDirectory
pub mod Keeps
