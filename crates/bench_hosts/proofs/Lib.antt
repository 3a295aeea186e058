pub mod Calls
pub mod Laying
pub mod Outgoing
pub mod RoundTrip
