use Rattle.std.specs.Prelude.{◌≡◌, ◌<◌, ℕ, length, slice_index_or}
use Rattle.aig_places.proofs.placing.first_holders.Given as goal

abbrev pub invariant-loop-variable : goal.invariant-loop-variable
invariant-loop-variable l = record {
  count : length l.holders.items ≡ l.variable;
  own : (p : ℕ) → p < l.variable → slice_index_or l.holders.items p 0 ≡ p;
}
