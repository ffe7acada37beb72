mod LengthSums
mod Tables
mod PartCode
mod Patches
mod FittingNumbers
mod CaseTests
mod Forms
mod Locals
mod WrittenProgram
pub mod Limits
mod Inside
mod SetTests
mod StatementCode
mod OneCode
