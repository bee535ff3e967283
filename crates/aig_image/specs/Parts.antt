-- What the crates of this repository cite of one another's work. What this crate promises stands in the other files.
pub mod Numbers
pub mod InOrder
pub mod InTurn
pub mod Placed
pub mod Ranked
