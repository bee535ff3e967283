-- What tables of variables hold.
pub mod Maps
pub mod Ranks
pub mod Slots
