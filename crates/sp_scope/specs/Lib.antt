pub mod Firsts
pub mod Walks
pub mod Fields
pub mod Standard
pub mod Files
pub mod Laws
pub mod Flags
