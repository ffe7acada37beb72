mod Ways
mod Diamond
mod Changes
pub mod Exchanges
pub mod NotesFrames
mod Rendezvous
pub mod Partners
pub mod GoodSteps
pub mod NoteLaws
pub mod LinkedSteps
pub mod Completion
pub mod OrderedSchedules
mod OrderTests
mod Rows
pub mod Keys
pub mod PrefixLaws
mod ClockLaws
mod Tallies
mod EntryFacts
mod Chains
mod TableLaws
pub mod Numbers
pub mod Fronts
mod JudgeTableLaws
mod OfferLaws
mod VerdictLaws
mod Steps
mod VerdictSteps
mod Halves
mod SilentWaiters
mod RunVerdicts
