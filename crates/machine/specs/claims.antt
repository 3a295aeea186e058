pub mod Counting
pub mod Every
pub mod Words
pub mod Wrote
