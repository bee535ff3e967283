pub mod Spellings
pub mod NumberLines
pub mod Entries
pub mod Rows
