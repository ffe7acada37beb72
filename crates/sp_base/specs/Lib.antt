pub mod formers
pub mod Faults
pub mod Lends
pub mod Names
pub mod Order
pub mod Places
pub mod Rules
pub mod Adds
