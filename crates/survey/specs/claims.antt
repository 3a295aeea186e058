pub mod Example
pub mod Lists
