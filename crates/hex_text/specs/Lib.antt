pub mod claims
pub mod rules
