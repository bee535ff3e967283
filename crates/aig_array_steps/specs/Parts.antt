-- What only private functions cite: words section by section, and bytes of values.
pub mod Words
pub mod Values
