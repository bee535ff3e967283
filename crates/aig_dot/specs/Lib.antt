pub mod Subject
pub mod Label
pub mod Graph
pub mod Dot
pub mod Laws
