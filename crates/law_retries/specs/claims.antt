pub mod Entries
pub mod EntryExample
pub mod Example
pub mod Pieces
pub mod Retries
