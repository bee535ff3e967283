pub mod Starting
pub mod Marking
