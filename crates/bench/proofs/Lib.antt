pub mod BitRuns
pub mod RunOffsets
