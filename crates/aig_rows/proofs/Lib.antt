pub mod Steps
pub mod Grammar
pub mod Kept
pub mod Loops
pub mod Canonical
