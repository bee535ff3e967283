use Rattle.std.proofs.Common.{◌≡◌, ◌<◌, ℕ, true, false, get_or, take}
use Rattle.aig_image.specs.Reordered.{exchanged_by}
use Rattle.aig_map.specs.Parts.Confirmed.{HasTwoOperands, gate_in_place}
use Rattle.aig_map.proofs.undone.exchange_recorded.Given as goal

abbrev pub invariant-loop-position : goal.invariant-loop-position
invariant-loop-position l = record {
  found : l.found ≡ exchanged_by (take l.position l.exchanged) l.fn.found;
  differ : (i : ℕ) → i < l.position → get_or l.exchanged i false ≡ true
      → HasTwoOperands (gate_in_place l.fn.found i);
}
