pub mod Exchange
pub mod Standing
