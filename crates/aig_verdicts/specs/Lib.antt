pub mod Comments
pub mod Kinds
pub mod JusticeText
pub mod Judged
pub mod Parts
pub mod Laws
