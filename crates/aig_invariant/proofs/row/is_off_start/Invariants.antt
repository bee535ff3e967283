use Rattle.std.specs.Prelude.{◌≡◌, drop, map}
use Rattle.aig_circuit.specs.declared.circuit.Latch.{Latch}
use Rattle.aig_invariant.specs.Invariant.{is_off_start}
use Rattle.aig_invariant.specs.Parts.Rows.{value_or_x}
use Rattle.aig_invariant.proofs.row.is_off_start.Given as goal

abbrev pub invariant-loop-i : goal.invariant-loop-i
invariant-loop-i l =
    is_off_start (map (λ (x : Latch). x.reset) (drop l.i l.latches)) (map value_or_x (drop l.i l.row))
    ≡ is_off_start (map (λ (x : Latch). x.reset) l.latches) (map value_or_x l.row)
