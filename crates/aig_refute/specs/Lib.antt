pub mod Store
pub mod Lines
pub mod Extended
pub mod Agree
pub mod Refuted
pub mod Kept
pub mod Rearranged
