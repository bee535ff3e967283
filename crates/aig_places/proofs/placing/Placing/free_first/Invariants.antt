use Rattle.std.specs.Prelude.{◌≡◌, length}
use Rattle.aig_places.proofs.placing.Placing.free_first.Given as goal

abbrev pub invariant-loop-variable : goal.invariant-loop-variable
invariant-loop-variable l = record {
  places : length l.self.places.items ≡ length l.fn.self.places.items;
  holders : l.self.holders ≡ l.fn.self.holders;
}
