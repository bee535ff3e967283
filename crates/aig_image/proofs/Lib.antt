pub mod Numbering
pub mod Imaging
pub mod Relabelling
pub mod Meaning
