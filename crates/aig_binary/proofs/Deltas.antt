-- Numbers in groups of seven bits.
pub mod Reading
pub mod Shortest
