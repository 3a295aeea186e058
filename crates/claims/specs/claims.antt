pub mod Leaving
pub mod MarkedExamples
pub mod TouchingExamples
