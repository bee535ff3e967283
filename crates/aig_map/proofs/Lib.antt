pub mod Mapping
pub mod Sources
pub mod BlockText
pub mod BlockReading
pub mod Confirming
pub mod Restoring
pub mod NewPlaces
