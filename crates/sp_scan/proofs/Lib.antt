pub mod Along
pub mod Tokens
pub mod Breaches
pub mod TokenPrefixes
