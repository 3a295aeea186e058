pub mod Example
pub mod RoundTrip
