pub mod Dashes
pub mod Options
pub mod Parsers
pub mod Ranges
pub mod Words
