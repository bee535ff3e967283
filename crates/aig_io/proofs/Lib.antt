pub mod Took
pub mod Runs
pub mod DigitCounts
pub mod FourDigits
pub mod LeadingDigits
pub mod Puts
