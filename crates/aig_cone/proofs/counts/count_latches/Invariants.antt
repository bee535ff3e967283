use Rattle.std.proofs.Common.{◌≡◌, ◌≤◌, take}
use Rattle.std.specs.List.{count_by}
use Rattle.std.specs.FinSet as set
use Rattle.aig_circuit.specs.declared.circuit.Latch.{Latch}
use Rattle.aig_cone.proofs.counts.count_latches.Given as goal

abbrev pub invariant-loop-latch : goal.invariant-loop-latch
invariant-loop-latch l = record {
  counted : l.count ≡ count_by (λ (d : Latch). set.contains l.variables d.var) (take l.latch-index l.latches);
  few : l.count ≤ l.latch-index;
}
