pub mod KnownLines
pub mod Texts
