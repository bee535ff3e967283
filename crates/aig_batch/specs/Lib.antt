pub use Rattle.aig_step.specs.Stimulus
pub use Rattle.aig_step.specs.TraceText
pub use Rattle.aig_step.specs.Outcome
pub use Rattle.aig_lanes.specs.Runs
pub mod Batched
pub mod Parts
