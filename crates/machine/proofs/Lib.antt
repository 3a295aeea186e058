pub mod ByTheTable
pub mod Cases
pub mod Counting
pub mod Every
pub mod Laws
pub mod Memory
pub mod Wrote
