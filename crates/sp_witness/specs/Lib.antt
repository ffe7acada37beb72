pub mod Witness
pub mod Contention
pub mod OccurrenceNumbers
pub mod NeededEntries
pub mod Flags
pub mod TableNumbers
pub mod Passes
