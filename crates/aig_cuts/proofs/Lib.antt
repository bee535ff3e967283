pub mod Choosing
pub mod Completing
pub mod Fitting
pub mod Looking
pub mod Plain
pub mod Written
