pub mod Calls
pub mod Rooms
pub mod Traceless
pub mod Worked
