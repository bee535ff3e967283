pub mod Goals
pub mod Goaled
pub mod Endless
pub mod Lasso
pub mod Runs
pub mod Judging
pub mod Parts
pub mod Laws
