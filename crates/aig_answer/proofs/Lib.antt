pub mod Answers
pub mod AtOnce
