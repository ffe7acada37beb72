mod Along
mod FirstBreaches
mod Calls
mod Clashes
mod ChannelOfItems
mod Exact
mod FittingSites
mod FindsFirst
mod Means
mod SetTests
pub mod BlockLevels
mod MoreItems
