pub mod Benches
pub mod Side
