pub mod Between
pub mod Decimals
pub mod Names
pub mod SameBytes
pub mod Values
