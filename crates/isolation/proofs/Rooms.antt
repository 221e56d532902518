-- Room for lines: lists of blocks, a hart's sets, the rows that fill and empty them, the steps that there are, and what a victim is for.
pub mod Blocks
pub mod Sets
pub mod CoreRooms
pub mod MessageRooms
pub mod MachineRooms
pub mod StepsExist
pub mod VictimRooms
