pub mod Bits
pub mod Fetched
pub mod Registers
pub mod Runs
