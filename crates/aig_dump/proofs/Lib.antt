pub mod Behind
pub mod Dumps
pub mod Lents
pub mod Runs
pub mod RunDumps
pub mod RunTexts
