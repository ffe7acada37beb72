pub mod Maps
pub mod Keys
pub mod EffectTree
mod Trees
pub mod Instance
pub mod Frames
pub mod Status
pub mod Meeting
pub mod StepInvariants
pub mod Parallel
mod Schedules
pub mod Run
mod Enough
pub mod Weights
pub mod EnoughSteps
pub mod LocalSteps
pub mod Sound
pub mod StepLaws
pub mod TurnWalks
pub mod JournalSchedules
pub mod LawProofs
mod Faults
mod ReadRows
mod Examples
mod Pauses
mod Rows
mod Fronts
pub mod Static
pub mod Within
pub mod CallRights
pub mod Rights
pub mod SoundParts
pub mod ActionRights
pub mod Children
pub mod RightsInvariant
pub mod RuleKeepers
pub mod Pure
pub mod SilentActions
