pub mod Counts
pub mod Visible
pub mod Plans
pub mod OutputBuffers
pub mod Files
pub mod InputBuffers
