use Rattle.std.proofs.Common.{◌≡◌, ◌<◌, ◌-◌, ℕ, length, get_or}
use Rattle.aig_image.specs.Parts.Placed.{gate_by}
use Rattle.aig_image.specs.Reordered.{no_gate}
use Rattle.aig_image.proofs.placed.Placed.gates.Given as goal

abbrev pub invariant-loop-at : goal.invariant-loop-at
invariant-loop-at l = record {
  many : length l.made.items ≡ length l.order;
  made : (k : ℕ) → k < l.at → get_or l.made.items (get_or l.self.numbers.items k 0 - l.self.first.noted - 1) no_gate
      ≡ gate_by l.self k (get_or l.gates k no_gate);
}
