pub mod Comparison
pub mod Differing
