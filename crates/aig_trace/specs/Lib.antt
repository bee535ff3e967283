pub use Rattle.aig_step.specs.Stimulus
pub use Rattle.aig_step.specs.TraceText
pub use Rattle.aig_step.specs.Outcome
pub mod Taken
pub mod Parts
