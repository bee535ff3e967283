pub mod Latches
pub mod Sections
pub mod Text
pub mod Tail
