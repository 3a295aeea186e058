pub mod Calls
pub mod CarriedOut
pub mod Settings
pub mod Story
pub mod Words
