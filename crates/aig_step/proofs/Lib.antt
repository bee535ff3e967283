pub mod LineValues
pub mod Running
pub mod StimulusTexts
