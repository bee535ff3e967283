use Rattle.std.proofs.Common.{◌≡◌, ◌<◌, ℕ, length}
use Rattle.aig_map.specs.Parts.Turns.{AreLinks, IsClear, ready_at}
use Rattle.aig_map.proofs.turns.are_taken_in_turn.Given as goal

abbrev pub invariant-loop-gate : goal.invariant-loop-gate
invariant-loop-gate l = record {
  many : length l.links.items ≡ l.gate-index;
  links : AreLinks l.places l.links.items;
  clear : (q : ℕ) → q < l.gate-index → IsClear l.places (ready_at l.first l.gates q) q;
}
