pub mod Meeting
pub mod Listed
pub mod Grown
pub mod Kept
pub mod Broken
pub mod Never
pub mod Growing
pub mod Judging
