pub mod Calls
pub mod Ceiling
pub mod Ends
pub mod Events
pub mod Fetched
pub mod Fitting
mod Running
