pub use Rattle.aig_lanes.specs.Runs
