pub mod Granted
pub mod Laws
pub mod Numbers
