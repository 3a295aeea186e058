pub mod Images
pub mod Survey
