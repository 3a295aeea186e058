pub mod Counting
pub mod Limit
pub mod Report
