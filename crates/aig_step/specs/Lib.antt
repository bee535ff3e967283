pub mod Simulating
pub mod Showing
pub mod Stimulus
pub mod TraceText
pub mod StimulusText
pub mod Outcome
pub mod Laws
pub mod Parts
