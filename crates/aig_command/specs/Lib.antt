pub mod Aiger
pub mod Asked
pub mod Answer
pub mod Words
pub mod Laws
