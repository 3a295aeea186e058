pub mod Entries
pub mod Laws
pub mod Lowest
pub mod Story
