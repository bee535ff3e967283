pub mod Renumbering
pub mod Image
pub mod Laws
pub mod Parts
pub mod Relabelled
pub mod Reordered
pub mod Algebra
pub mod Renamed
