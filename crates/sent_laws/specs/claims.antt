pub mod Example
pub mod Lines
pub mod Opening
pub mod Reached
