pub mod Items
pub mod Layout
pub mod Formats
pub mod SameTrees
