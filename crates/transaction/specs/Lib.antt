pub mod Faults
pub mod Value
pub mod Transactions
