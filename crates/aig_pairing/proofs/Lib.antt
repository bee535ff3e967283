pub mod Indexing
pub mod Naming
pub mod Found
pub mod Taken
pub mod Formed
pub mod Ordered
pub mod OrderedRows
pub mod OfSymbols
