pub mod Fronts
pub mod RunsRead
