pub mod Account
pub mod Agreement
pub mod Attempts
pub mod Booked
pub mod Laws
