pub mod Lines
pub mod Accepted
pub mod Read
