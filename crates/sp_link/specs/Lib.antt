pub mod Premises
pub mod Endings
