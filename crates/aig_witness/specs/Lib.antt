pub use Rattle.aig_step.specs.Stimulus
pub use Rattle.aig_step.specs.Outcome
pub mod Witness
pub mod Confirming
pub mod Parts
pub mod WitnessText
pub mod WrongLine
pub mod Laws
