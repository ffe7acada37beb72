pub mod FrameLaws
pub mod HeldLaws
pub mod Laws
pub mod Order
pub mod Partition
pub mod Plan
pub mod Sorting
pub mod Steps
