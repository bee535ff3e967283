-- The source by a block, and why there is none.
pub mod Refused
pub mod Placed
pub mod OneSource
