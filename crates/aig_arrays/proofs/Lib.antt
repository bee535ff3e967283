pub mod Grammar
pub mod Loops
pub mod Numbering
pub mod Placing
pub mod Whole
pub mod Written
