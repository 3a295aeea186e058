pub mod HostBytes
pub mod HostCalls
