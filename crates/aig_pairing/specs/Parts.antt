-- What only private functions cite.
pub mod Places
pub mod Ordered
