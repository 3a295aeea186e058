pub mod Choosing
pub mod Laws
