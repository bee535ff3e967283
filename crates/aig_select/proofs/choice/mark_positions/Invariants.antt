use Rattle.std.proofs.Common.{◌≡◌, ◌==◌, ◌<◌, ℕ, false, get_or, length, take}
use Rattle.std.specs.List.{list_any}
use Rattle.aig_select.proofs.choice.mark_positions.Given as goal

abbrev pub invariant-loop-position : goal.invariant-loop-position
invariant-loop-position l = record {
  long : length l.marks.items ≡ l.count;
  marked : (k : ℕ) → k < l.count
      → get_or l.marks.items k false ≡ list_any (λ (q : ℕ). q == k) (take l.position-index l.positions);
}
