pub mod LoopMark
pub mod RunDump
pub mod Started
