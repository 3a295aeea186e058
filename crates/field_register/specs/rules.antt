pub mod Commands
pub mod Questions
pub mod Reading
pub mod Refusals
