pub mod Sizes
pub mod Shown
pub mod Made
pub mod Back
pub mod Formed
pub mod Never
pub mod Lassos
