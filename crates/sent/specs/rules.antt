pub mod Bus
pub mod Feeding
pub mod Line
pub mod Opening
