pub mod Judging
pub mod Shapes
