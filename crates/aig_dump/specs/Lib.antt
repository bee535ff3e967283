pub mod InMemory
pub mod Dumped
pub mod Parts
