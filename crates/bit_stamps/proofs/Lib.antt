pub mod Laws
pub mod Stamping
