pub mod Passed
pub mod HeldClaims
pub mod Lines
pub mod Folds
pub mod Ends
pub mod Files
pub mod Verdicts
pub mod Plain
