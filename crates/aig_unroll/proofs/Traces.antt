-- The rows of a trace side by side are a row of the unrolled circuit.
pub mod OneFrame
pub mod Whole
