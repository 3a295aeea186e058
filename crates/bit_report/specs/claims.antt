pub mod Laws
pub mod Story
