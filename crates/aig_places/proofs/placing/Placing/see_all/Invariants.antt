use Rattle.std.specs.Prelude.{◌≡◌, ◌<◌, ℕ, length, slice_index_or}
use Rattle.aig_places.specs.Places.{StandsAt}
use Rattle.aig_places.proofs.placing.Placing.see_all.Given as goal

abbrev pub invariant-loop-literal : goal.invariant-loop-literal
invariant-loop-literal l = record {
  count : length l.seen.items ≡ l.literal-index;
  stand : (k : ℕ) → k < l.literal-index
      → StandsAt l.self.holders.items (slice_index_or l.seen.items k 0) (slice_index_or l.literals k 0);
}
