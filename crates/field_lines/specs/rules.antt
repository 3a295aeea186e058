pub mod Clashes
pub mod Lines
pub mod Pairs
pub mod Text
