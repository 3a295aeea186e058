pub mod Answers
pub mod Ends
pub mod Hosts
pub mod Sendings
