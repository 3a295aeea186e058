pub mod Outgoing
pub mod RoundTrip
