use Rattle.aig_dot.proofs.RootLiterals.{all_literals, small_gates, small_inputs, small_latches}
use Rattle.aig_dot.proofs.roots.defined_literals.Goals as goal

pub push_definitions-requires : goal.push_definitions-requires
push_definitions-requires c = rw c.as_slice.ensures (small_inputs c.args.circuit.now c.requires)

pub push_definitions-requires-2 : goal.push_definitions-requires-2
push_definitions-requires-2 c = rw c.as_slice-2.ensures (small_latches c.args.circuit.now c.requires)

pub push_definitions-requires-3 : goal.push_definitions-requires-3
push_definitions-requires-3 c = rw c.as_slice-3.ensures (small_gates c.args.circuit.now c.requires)

pub returns : goal.returns
returns c =
    all_literals c.args.circuit.now _ _ _ _ _ _ _ c.new-literals.ensures.items c.as_slice.ensures
    c.as_slice-2.ensures c.as_slice-3.ensures c.in_ok-push_definitions.ensures c.in_ok-push_definitions-2.ensures
    c.in_ok-push_definitions-3.ensures
