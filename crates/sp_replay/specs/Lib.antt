pub mod HeldProcesses
pub mod FollowInvariant
pub mod Replays
pub mod Tellings
pub mod TraceAnswers
