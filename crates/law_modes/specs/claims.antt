pub mod Modes
pub mod Retired
