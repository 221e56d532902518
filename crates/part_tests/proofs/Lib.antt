pub mod Played
pub mod Moves
pub mod SharingTraces
pub mod ConflictTraces
pub mod AbortTraces
pub mod SpillTraces
pub mod NestingTraces
pub mod AtomicTraces
