pub mod Chains
pub mod Laws
pub mod Left
pub mod Parts
pub mod Touching
