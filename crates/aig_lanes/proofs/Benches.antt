pub mod Steps
pub mod ShownTexts
