pub mod Progress
pub mod Tracing
pub mod Saying
pub mod Streaming
pub mod WaitingRoom
pub mod Waits
pub mod Taking
