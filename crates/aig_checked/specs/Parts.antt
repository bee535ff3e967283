-- What only private functions cite: sections that are numbered.
pub mod Numbered
