pub mod Confirmed
pub mod WitnessState
pub mod WitnessEnds
pub mod Witnessing
pub mod WitnessTexts
pub mod Verdicts
