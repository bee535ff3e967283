pub mod VarMap
pub mod Parts
