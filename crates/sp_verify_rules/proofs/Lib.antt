pub mod Lists
mod Chains
mod Calls
mod ForkSteps
mod Births
mod StoreLaws
mod Pieces
mod Holdings
mod Pushes
mod Messages
mod ChildEnds
mod ForkChildren
mod Along
mod Journals
mod Safety
mod OperandLaws
mod Facts
mod Turns
pub mod ShapePaths
pub mod FrameScopes
mod Addresses
mod Unbroken
mod Effects
mod Firsts
mod Instances
mod Readiness
mod Safe
mod Holds
mod WriteLaws
mod TurnEnds
pub mod RankLaws
pub mod Premises
mod FirstProcess
mod SafeRuns
mod EffectRows
pub mod Assembly
mod FunctionStops
pub mod EffectLaws
pub mod Rows
mod ShapeTables
mod KeptRows
mod AnswerRow
mod AnswerForks
mod Identity
mod Contents
mod Sole
mod Sides
mod StoreChanges
mod Plans
mod ForkOwners
mod JoinOwners
mod TurnStores
mod TurnChanges
mod Conditions
mod EntriesKeepApart
mod StoreOwners
