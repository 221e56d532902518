-- Spills and full logs have their reasons: what a transaction has marked and logged is what the entries say that it has used.
pub mod Holding
pub mod Accesses
pub mod Lines
pub mod CoreRows
pub mod Reasoned
