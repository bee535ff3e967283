-- The binary image.
pub mod InTurn
pub mod Sections
pub mod Ordered
pub mod OwnImage
pub mod Renewed
pub mod Placed
