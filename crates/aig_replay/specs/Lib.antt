pub mod Finding
pub mod Laws
pub mod Starting
pub mod Parts
pub mod WitnessLines
pub mod Alone
pub mod Reached
pub mod Held
