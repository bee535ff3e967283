pub mod Ordering
pub mod Traces
pub mod InFrame
pub mod Written
pub mod Growing
