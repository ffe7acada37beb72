mod ListSteps
mod ScopeTables
mod NameOrders
mod Tables
mod NameRows
mod Standards
mod Heads
pub mod PartBreaches
pub mod NameLaws
mod TakenFirst
