use Rattle.std.proofs.Common.{◌≡◌, ◌≤◌, take}
use Rattle.std.specs.List.{count_by}
use Rattle.std.specs.FinSet as set
use Rattle.aig_cone.proofs.counts.count_inputs.Given as goal

abbrev pub invariant-loop-input : goal.invariant-loop-input
invariant-loop-input l = record {
  counted : l.count ≡ count_by (set.contains l.variables) (take l.input-index l.inputs);
  few : l.count ≤ l.input-index;
}
