mod Asking
mod ListNumbers
mod Forms
mod Takings
mod FormSteps
mod Ways
mod SearchLaws
mod ListComparison
mod SearchSteps
mod AreaEntries
mod SearchEnds
pub mod ReachLaws
pub mod CallRepeats
mod Formals
mod Memos
mod AlikeLists
mod SeenJumps
mod MessageLengths
