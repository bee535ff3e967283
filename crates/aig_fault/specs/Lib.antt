pub mod Words
pub mod Stopping
