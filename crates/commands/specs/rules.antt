pub mod Commands
pub mod Wrote
