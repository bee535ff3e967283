pub mod Alike
pub mod NameRows
pub mod Checking
