pub mod Opening
pub mod Sessions
