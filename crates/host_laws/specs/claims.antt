pub mod Hearing
pub mod Looks
pub mod Opening
pub mod Outgoing
pub mod Refusals
pub mod Retries
pub mod Turns
