use Rattle.std.proofs.Common.{◌≡◌, drop}
use Rattle.std.specs.List.{list_all}
use Rattle.aig_core.specs.Parts.Indexed.{is_latch_right}
use Rattle.aig_core.proofs.checks.faults.are_latches_right.Given as goal

abbrev pub invariant-loop-latch : goal.invariant-loop-latch
invariant-loop-latch l =
    list_all (is_latch_right l.before l.index) (drop l.latch-index l.latches)
    ≡ list_all (is_latch_right l.before l.index) l.latches
