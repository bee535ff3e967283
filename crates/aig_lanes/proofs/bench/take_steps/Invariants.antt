use Rattle.std.specs.Prelude.{◌≡◌, ℕ, length}
use Rattle.aig_lanes.specs.declared.run.Run.{Run}
use Rattle.aig_lanes.specs.Parts.LaneTexts.{HasLane, LaneStands}
use Rattle.aig_lanes.specs.Parts.Sheets.{SameRoom}
use Rattle.aig_lanes.proofs.bench.take_steps.Given as goal

abbrev pub invariant-loop-step : goal.invariant-loop-step
invariant-loop-step l = record {
  stand : (j : ℕ) (run : Run) → HasLane l.machine l.bits l.shown l.fn.sheet j run
      → LaneStands l.machine run 0 j l.fn.table l.fn.state l.shown l.fn.sheet
      → LaneStands l.machine run l.step j l.table l.state l.shown l.sheet;
  table : length l.table ≡ length l.fn.table;
  state : length l.state ≡ length l.fn.state;
  same : SameRoom l.fn.sheet l.sheet;
}
