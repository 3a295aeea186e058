pub mod ImageWords
pub mod Modes
pub mod Retired
