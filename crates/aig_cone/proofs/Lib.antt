pub mod Adding
pub mod Lists
pub mod Placing
pub mod Searching
