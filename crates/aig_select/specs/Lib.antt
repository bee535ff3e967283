pub mod Parts
pub mod Staying
pub mod Choice
pub mod Chosen
pub mod Cone
pub mod Selection
pub mod Shown
pub mod Laws
