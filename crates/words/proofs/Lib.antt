pub mod Choice
pub mod Joins
pub mod Numbers
pub mod Puts
pub mod Ranges
pub mod Units
pub mod WrittenBits
