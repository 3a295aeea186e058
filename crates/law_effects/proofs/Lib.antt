pub mod Effects
pub mod Fields
pub mod Wrote
