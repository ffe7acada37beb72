pub mod Codes
pub mod Fork
pub mod Frame
pub mod Holders
pub mod Lists
pub mod Map
pub mod Spots
