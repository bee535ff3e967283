pub mod Meaning
pub mod Trace
pub mod Completion
pub mod Laws
