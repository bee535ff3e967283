pub mod Lines
pub mod Laws
pub mod Texts
pub mod Keeping
pub mod Feeding
pub mod Feeders
