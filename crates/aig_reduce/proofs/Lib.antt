pub mod Formed
pub mod Reductions
