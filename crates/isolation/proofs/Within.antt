pub mod Accesses
pub mod Harts
pub mod CoreRows
pub mod MessageRows
pub mod DirectoryRows
pub mod Machines
