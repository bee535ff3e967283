pub mod Rows
pub mod Sections
pub mod Symbols
pub mod Places
pub mod Decoded
pub mod Tells
