-- Rows of messages that arrive at the directory.
pub mod Serves
pub mod PutRows
pub mod DoneRows
pub mod Forwards
pub mod GetTables
pub mod GetRows
pub mod DirectoryRows
