pub mod Cases
pub mod Counting
pub mod Feeding
pub mod Gathering
pub mod Lift
pub mod Units
