-- Orders of gates, and how the least ready one is made.
pub mod Counted
pub mod Trees
pub mod LeastReady
pub mod Ranked
pub mod Cyclic
pub mod DepthFirst
pub mod Lists
pub mod Rows
pub mod Waiting
pub mod Index
