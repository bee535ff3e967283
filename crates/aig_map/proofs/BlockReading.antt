pub mod Lines
pub mod Block
