pub mod Cells
pub mod Machines
