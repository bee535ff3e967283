use Rattle.std.specs.Prelude.{◌≡◌, take}
use Rattle.aig_lanes.specs.Parts.Kept.{reset_literals}
use Rattle.aig_lanes.proofs.lane_columns.reset_literals.Given as goal

abbrev pub invariant-loop-latch : goal.invariant-loop-latch
invariant-loop-latch l = l.literals.items ≡ reset_literals (take l.latch-index l.latches)
