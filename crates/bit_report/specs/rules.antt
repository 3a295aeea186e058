pub mod Deeds
pub mod Fields
pub mod Lowest
pub mod Parts
