pub mod Clauses
pub mod ClauseText
pub mod VariableTexts
pub mod Laws
