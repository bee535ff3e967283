pub mod Planes
pub mod Tables
pub mod Places
