pub mod BinaryOrder
pub mod Parts
