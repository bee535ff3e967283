use Rattle.std.specs.Prelude.{◌≡◌, length, map, take}
use Rattle.aig_circuit.specs.declared.circuit.Latch.{Latch}
use Rattle.aig_unroll.specs.Parts.Substitution.{substituted}
use Rattle.aig_unroll.proofs.substitution.put_nexts.Given as goal

abbrev pub invariant-loop-i : goal.invariant-loop-i
invariant-loop-i l =
    (take l.i l.out ≡ map (substituted l.substitution l.first_gate) (map (λ (k : Latch). k.next) (take l.i l.latches)))
    × (length l.out ≡ length l.latches)
