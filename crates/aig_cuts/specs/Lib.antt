pub mod Cuts
pub mod CutText
pub mod Laws
pub mod Parts
