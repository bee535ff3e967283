pub mod Lines
pub mod NamedFiles
pub mod Tasks
pub mod Jobs
