pub mod Answer
pub mod AnswerText
pub mod Laws
pub mod Parts
