pub mod Line
pub mod Occupied
pub mod Ways
pub mod Sets
pub mod Bytes
