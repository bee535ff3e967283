pub mod Numbers
pub mod Checks
