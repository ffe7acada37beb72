pub mod Leasts
pub mod BlockLaws
mod Beginnings
pub mod FirstFailures
mod Alone
pub mod OwnerLaws
pub mod OwnerSteps
pub mod OwnerClosure
mod PlaceLaws
mod DeclarationSteps
mod NamedTables
mod RuleSums
mod Outward
mod CycleFreedom
mod TreeGrowth
mod BlockNodes
mod NodesForAll
mod Attachments
mod Surroundings
mod WrongNames
mod OrphanLayouts
mod KnownVariables
