pub mod Eights
pub mod Sheets
pub mod InputBits
