pub mod Feeding
pub mod Filling
pub mod Loading
