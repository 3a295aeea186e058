pub mod Barring
pub mod Fitting
pub mod Reaching
pub mod SessionCases
