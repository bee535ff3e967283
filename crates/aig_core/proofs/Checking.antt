-- Well-formedness and the first fault.
pub mod Sections
pub mod Faultless
pub mod Reported
pub mod InOrder
pub mod Indexed
