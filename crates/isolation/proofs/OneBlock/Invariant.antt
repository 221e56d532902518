-- The invariant, and what follows from it at once.
pub mod Roles
pub mod Parts
pub mod Laws
pub mod Each
