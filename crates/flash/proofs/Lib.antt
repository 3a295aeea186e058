pub mod Cases
pub mod Loads
