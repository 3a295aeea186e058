pub mod CarriedOut
pub mod Story
