pub mod Batching
pub mod Collecting
pub mod Judging
pub mod Side
