pub mod Cone
pub mod Counts
pub mod Parts
