pub mod MapBlock
pub mod MapSpelling
pub mod MapReading
pub mod Undone
pub mod Parts
