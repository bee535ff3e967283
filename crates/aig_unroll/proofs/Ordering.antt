-- The unrolled circuit: one of each circuit, and in binary order.
pub mod Frames
pub mod Lower
pub mod Ordered
