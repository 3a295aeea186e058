pub mod Bounds
pub mod ByLine
pub mod Lines
pub mod ReadingOn
