pub mod Taken
pub mod RunTexts
pub mod Shows
pub mod Traced
pub mod Waits
pub mod Ending
