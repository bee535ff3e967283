use Rattle.std.proofs.Common.{◌≡◌, ◌≤◌, take}
use Rattle.std.specs.List.{count_by}
use Rattle.std.specs.FinSet as set
use Rattle.aig_circuit.specs.declared.circuit.Gate.{Gate}
use Rattle.aig_cone.proofs.counts.count_gates.Given as goal

abbrev pub invariant-loop-gate : goal.invariant-loop-gate
invariant-loop-gate l = record {
  counted : l.count ≡ count_by (λ (g : Gate). set.contains l.variables g.var) (take l.gate-index l.gates);
  few : l.count ≤ l.gate-index;
}
