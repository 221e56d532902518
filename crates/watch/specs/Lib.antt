pub mod Traces
pub mod Rows
pub mod Kinds
pub mod Traffic
pub mod Runs
pub mod CountTexts
pub mod MachineTexts
