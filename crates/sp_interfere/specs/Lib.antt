pub mod Rules
pub mod BlockRules
pub mod Tests
pub mod Walk
pub mod Verdict
