use Rattle.std.proofs.Common.{◌≡◌, map, take}
use Rattle.aig_circuit.specs.Literal.{variable_of}
use Rattle.aig_cone.specs.Parts.Search.{HasMarks, with_all}
use Rattle.aig_cone.proofs.search.add_given.Given as goal

abbrev pub invariant-loop-literal : goal.invariant-loop-literal
invariant-loop-literal l = record {
  marks : HasMarks l.found;
  added : l.found.list.items ≡ with_all l.fn.found.list.items (map variable_of (take l.literal-index l.literals));
}
