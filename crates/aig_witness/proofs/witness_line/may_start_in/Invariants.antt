use Rattle.std.proofs.Common.{◌≡◌, drop, map}
use Rattle.aig_circuit.specs.declared.circuit.Latch.{Latch}
use Rattle.aig_witness.specs.Witness.{may_start_in}
use Rattle.aig_witness.proofs.witness_line.may_start_in.Given as goal

abbrev pub invariant-loop-i : goal.invariant-loop-i
invariant-loop-i l =
    may_start_in (map (λ (k : Latch). k.reset) (drop l.i l.latches)) (drop l.i l.state)
    ≡ may_start_in (map (λ (k : Latch). k.reset) l.latches) l.state
