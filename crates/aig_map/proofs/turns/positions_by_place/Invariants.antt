use Rattle.std.proofs.Common.{◌≡◌, ◌<◌, ℕ, length, get_or}
use Rattle.aig_map.proofs.Sources.Placed.{recorded_at}
use Rattle.aig_map.proofs.turns.positions_by_place.Given as goal

abbrev pub invariant-loop-position : goal.invariant-loop-position
invariant-loop-position l = record {
  many : length l.found.items ≡ length l.gates;
  found : (i : ℕ) → i < l.position → get_or l.found.items (recorded_at l.gates i).place 0 ≡ i;
}
