pub mod Meanings
pub mod Story
pub mod WellFormed
