pub mod Answers
pub mod Opcodes
pub mod Refusals
