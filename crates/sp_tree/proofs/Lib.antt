pub mod Earlier
pub mod BreachLists
pub mod Members
pub mod UsesOf
pub mod SetCertificates
pub mod Closure
mod InterferenceRows
pub mod SingleStatements
mod UseSites
pub mod NoBreach
pub mod CallClosure
pub mod Unbroken
mod BreachRows
mod FormedRows
pub mod Tables
mod OneTree
pub mod MachineRuns
pub mod FromTable
mod Behind
pub mod Looks
pub mod TextParts
pub mod ToTable
pub mod Completes
pub mod Wider
mod Viable
pub mod RefusalOrder
pub mod TokenOrder
pub mod Firsts
pub mod OneList
mod Existence
mod GrammarRows
