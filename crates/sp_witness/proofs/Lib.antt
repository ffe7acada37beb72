mod Rows
mod Independent
mod IndependentSteps
mod Pasts
mod Ticks
mod Blocks
mod JournalSteps
mod Back
mod Parts
mod Contention
mod Order
mod WitnessRuns
mod RaceWitness
mod Real
mod PastFacts
mod KnowledgeSteps
mod BackwardPass
mod PassLaw
mod PickedEntries
pub mod NumberLookups
mod TableNumbers
mod Tables
mod OwnFronts
mod Pass
mod Backwards
mod Forwards
mod WitnessOfCode
pub mod Cleanness
pub mod VerdictMeaning
mod Offers
