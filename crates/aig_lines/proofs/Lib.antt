pub mod Cutting
pub mod Pieces
pub mod Taken
pub mod Feeds
pub mod Tells
