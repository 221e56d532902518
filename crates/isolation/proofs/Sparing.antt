-- A transaction that begins as the earliest refuses no earlier one.
pub mod Fitting
pub mod Holding
pub mod Going
pub mod Spared
