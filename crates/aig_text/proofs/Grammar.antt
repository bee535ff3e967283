pub mod Headers
pub mod Symbols
pub mod Tail
pub mod Sections
pub mod Text
