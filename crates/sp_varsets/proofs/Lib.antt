mod Items
mod SetsFound
mod BlockRows
mod Paths
mod CallSets
pub mod StatementRecords
mod CallPaths
pub mod Words
pub mod AddedSets
mod WordChanges
mod TextJoins
mod Members
mod OneText
mod LineOrders
mod StatementLines
