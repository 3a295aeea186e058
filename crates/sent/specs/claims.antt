pub mod Counting
pub mod Lift
