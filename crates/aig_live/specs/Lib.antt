pub mod WithLoop
pub mod Values
pub mod FoundLasso
pub mod Laws
pub mod Outcome
