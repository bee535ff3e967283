pub mod Words
pub mod Decoded
pub mod Outcomes
pub mod Ordered
pub mod Laws
pub mod Parts
