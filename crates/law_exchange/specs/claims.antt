pub mod Agreement
pub mod Commissioning
pub mod Course
pub mod Entering
pub mod Whole
pub mod Worked
