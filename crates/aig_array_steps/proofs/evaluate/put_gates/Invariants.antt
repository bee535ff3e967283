use Rattle.std.proofs.Common.{◌≡◌, ◌+◌, ◌*◌, ◌≤◌, length}
use Rattle.aig_array_steps.specs.Parts.Values.{with_gates}
use Rattle.aig_array_steps.specs.Parts.Words.{AreGateWords, AreInThrees}
use Rattle.aig_array_steps.proofs.evaluate.put_gates.Given as goal

abbrev pub decreases-loop-rest : goal.decreases-loop-rest
decreases-loop-rest l = length l.rest

abbrev pub invariant-loop-rest : goal.invariant-loop-rest
invariant-loop-rest l = record {
  room : 3 * l.variable + length l.rest ≤ 3 * length l.table;
  ordered : AreInThrees AreGateWords l.variable l.rest;
  left : with_gates l.variable l.rest l.table ≡ with_gates l.first l.gates l.fn.table;
}
