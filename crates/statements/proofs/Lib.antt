pub mod Blanks
pub mod Cuts
pub mod Far
pub mod Pieces
pub mod Round
