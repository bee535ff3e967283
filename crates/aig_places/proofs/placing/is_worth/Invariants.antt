use Rattle.std.specs.Prelude.{◌≤◌}
use Rattle.aig_places.proofs.placing.is_worth.Given as goal

abbrev pub invariant-loop-k : goal.invariant-loop-k
invariant-loop-k l = l.count ≤ l.k
