pub mod Feeding
pub mod Instance
pub mod Rooms
pub mod Traceless
pub mod Units
