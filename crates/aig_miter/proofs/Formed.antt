pub mod Beside
pub mod Compared
pub mod Whole
pub mod Starting
