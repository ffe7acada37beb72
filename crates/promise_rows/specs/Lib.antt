pub mod Files
pub mod Observations
pub mod Programs
