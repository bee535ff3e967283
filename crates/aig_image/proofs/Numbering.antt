-- New numbers of variables.
pub mod Places
pub mod Kept
pub mod Following
pub mod Ranked
