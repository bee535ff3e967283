use Rattle.std.proofs.Common.{◌≡◌, ◌++◌, map, take}
use Rattle.std.specs.List.{flat_map}
use Rattle.aig_circuit.specs.Literal.{literal_of}
use Rattle.aig_dot.proofs.roots.push_definitions.Given as goal

abbrev pub invariant-loop-entry : goal.invariant-loop-entry
invariant-loop-entry g l =
    l.literals.items ≡ l.fn.literals.items ++ map literal_of (flat_map g.T.Entry.defined (take l.entry-index l.entries))
