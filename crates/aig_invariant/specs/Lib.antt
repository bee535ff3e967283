pub mod Invariant
pub mod InvariantText
pub mod Outcome
pub mod Parts
pub mod Laws
