pub mod Depth
pub mod Info
pub mod InfoText
