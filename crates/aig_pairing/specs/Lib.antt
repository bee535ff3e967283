pub mod Names
pub mod NameFaults
pub mod ByNames
pub mod Laws
pub mod Parts
