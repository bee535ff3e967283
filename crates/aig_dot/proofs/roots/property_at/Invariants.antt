use Rattle.std.proofs.Common.{◌≡◌, ◌≤◌, ◌-◌, [], drop, slice_index_or}
use Rattle.aig_circuit.specs.Justice.{literals_of_each, properties_of}
use Rattle.aig_dot.proofs.roots.property_at.Given as goal

abbrev pub invariant-loop-at : goal.invariant-loop-at
invariant-loop-at l = record {
  before : l.at ≤ l.position;
  left : slice_index_or (literals_of_each (drop l.at l.sizes) l.rest) (l.position - l.at) []
      ≡ slice_index_or (properties_of l.justice) l.position [];
}
