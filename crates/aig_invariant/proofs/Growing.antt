-- A circuit that grows by the cubes of an invariant.
pub mod Cubes
