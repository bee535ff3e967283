pub mod Relabelled
pub mod Permuted
pub mod Formed
