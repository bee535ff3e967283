pub mod Grammar
pub mod Kept
pub mod Refusals
pub mod Loops
pub mod Canonical
pub mod LastBytes
pub mod Sources
pub mod Written
