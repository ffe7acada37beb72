pub mod Members
pub mod LineNumbers
mod Small
mod Rows
mod Runs
pub mod Counts
pub mod CodePositions
pub mod OneTurn
pub mod Falls
pub mod Systems
pub mod TickCounts
mod Ends
pub mod Blocks
pub mod StoreLaws
pub mod Plans
pub mod Pieces
pub mod Queues
pub mod Orders
pub mod EventFrames
pub mod ControlAgreement
pub mod OutProcesses
pub mod Legal
pub mod Outs
pub mod OperationLaws
mod Cells
mod Memories
pub mod KnownChannels
pub mod Families
pub mod InTurn
pub mod NameableRuns
pub mod OneFault
pub mod Phases
pub mod Along
pub mod Outputs
mod OutputHolder
pub mod ForkOutputs
pub mod Holders
