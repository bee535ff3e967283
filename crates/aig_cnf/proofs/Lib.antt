pub mod Truths
pub mod Steps
pub mod Existing
pub mod ClauseTexts
pub mod CnfTexts
