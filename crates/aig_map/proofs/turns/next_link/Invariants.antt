use Rattle.std.proofs.Common.{◌≤◌}
use Rattle.aig_map.specs.Parts.Turns.{IsClear}
use Rattle.aig_map.proofs.turns.next_link.Given as goal

abbrev pub invariant-loop-at : goal.invariant-loop-at
invariant-loop-at l = record {
  back : l.at ≤ l.place;
  clear : IsClear l.places l.at l.place;
}

abbrev pub decreases-loop-at : goal.decreases-loop-at
decreases-loop-at l = l.at
