pub mod Facts
mod ListFronts
pub mod Additions
