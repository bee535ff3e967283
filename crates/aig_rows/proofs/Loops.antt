pub mod Rows
pub mod FirstRows
