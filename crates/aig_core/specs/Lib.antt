pub mod Fault
pub mod Steps
pub mod Names
pub mod Laws
pub mod Parts
