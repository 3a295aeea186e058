pub mod Hearing
pub mod Settling
