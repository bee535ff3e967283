pub mod Named
pub mod Notes
pub mod Reasons
