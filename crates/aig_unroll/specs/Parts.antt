pub mod Substitution
pub mod Frames
pub mod Writing
