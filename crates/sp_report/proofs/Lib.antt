mod Children
mod FitLaws
mod LineLemmas
pub mod Orders
mod Prefixes
mod NameOrder
