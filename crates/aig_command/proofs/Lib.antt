pub mod Within
pub mod Entered
pub mod Answered
pub mod Chosen
pub mod Walked
pub mod ByName
