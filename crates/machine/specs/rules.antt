pub mod Machine
pub mod Purpose
