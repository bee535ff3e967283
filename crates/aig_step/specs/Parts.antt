pub mod Cells
pub mod Tables
pub mod Machines
pub mod Stepping
pub mod Simulators
pub mod Lines
