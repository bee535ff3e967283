pub mod Benches
pub mod Groups
pub mod Sheets
pub mod InputBits
pub mod Vectors
pub mod LaneTexts
pub mod Kept
