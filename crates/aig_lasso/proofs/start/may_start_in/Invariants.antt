use Rattle.std.proofs.Common.{◌≡◌, drop, map}
use Rattle.aig_circuit.specs.declared.circuit.Latch.{Latch}
use Rattle.aig_witness.specs.Witness.{may_start_in}
use Rattle.aig_lasso.specs.Runs.{value_held}
use Rattle.aig_lasso.proofs.start.may_start_in.Given as goal

abbrev pub invariant-loop-place : goal.invariant-loop-place
invariant-loop-place l =
    may_start_in (map (λ (k : Latch). k.reset) (drop l.place l.latches)) (map value_held (drop l.place l.first))
    ≡ may_start_in (map (λ (k : Latch). k.reset) l.latches) (map value_held l.first)
