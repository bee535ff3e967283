pub mod Unrolled
pub mod SideBySide
pub mod Laws
pub mod Outcome
pub mod Parts
