pub mod Source
pub mod Recovered
pub mod AtPositions
