-- What only private functions cite: how parts of the work are described. What the crate promises stands in the other
-- files.
pub mod Places
pub mod Plan
