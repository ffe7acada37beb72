mod Steps
mod DigitNumbers
mod Rows
mod Pending
mod Looking
mod ReadNames
mod Lists
mod Turns
mod Forms
mod ReadHeadings
pub mod TokenBounds
mod TreeAnswers
