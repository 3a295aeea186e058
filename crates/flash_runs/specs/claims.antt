pub mod Ceiling
pub mod Ends
pub mod Events
pub mod Fetched
