pub mod Entries
pub mod Events
pub mod Run
