mod Rows
mod DeclarationRows
mod TreeRows
mod TextRows
pub mod Laws
mod ExpectedTypes
mod Counts
mod NextNumbers
pub mod StatementNumbers
mod CellCaps
mod DeclarationRules
mod KeptKinds
mod TypePhase
mod ConstantSets
mod FieldTables
mod SeveralOnChannel
