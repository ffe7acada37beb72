pub mod CodeText
pub mod Cuts
pub mod DecodeAnswers
pub mod Items
pub mod Lines
pub mod Opcodes
pub mod VerifyAnswers
