-- What only private functions cite. What the crate promises stands in the other files.
pub mod Confirmed
pub mod Had
pub mod MapOutcomes
pub mod Placed
pub mod Tables
pub mod NewPlace
pub mod Turns
pub mod Kept
