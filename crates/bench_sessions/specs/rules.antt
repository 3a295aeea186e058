pub mod Feeding
pub mod Map
pub mod Numbers
