use Rattle.std.proofs.Common.{◌≤◌}
use Rattle.aig_circuit.specs.declared.circuit.TheConstants.{LARGEST}
use Rattle.aig_dot.proofs.RootLiterals.{of_one}
use Rattle.aig_dot.proofs.roots.push_definitions.Goals as goal

pub push_definition-requires : goal.push_definition-requires
push_definition-requires g c =
    rw (c.definition.ensures, c.entry-item.is)
    (of_one (λ v. v ≤ LARGEST) g.T.Entry.defined c.args.entries.now c.loop-entry.entry-index c.entry-item.result
    c.loop-entry-test.true c.requires)
