mod BegunLaws
pub mod BirthLaws
pub mod EntryText
pub mod Facts
mod Families
mod LedgerLaws
pub mod NameLaws
mod OneText
mod NumberlessEvents
mod ReaderLaws
mod ReadingLaws
mod Rows
pub mod SplitLaws
pub mod TextLaws
pub mod Walk
