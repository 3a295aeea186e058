pub mod Parts
pub mod Repeats
