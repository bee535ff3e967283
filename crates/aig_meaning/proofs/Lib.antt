pub mod Related
pub mod Existing
pub mod Traces
