use Rattle.std.proofs.Common.{◌∙◌, ap, arith, map}
use Rattle.aig_topo.specs.Needs.{needs_of}
use Rattle.aig_topo.proofs.Ordering.Rows.{begun_needs, begun_lists, all_begun}
use Rattle.aig_topo.proofs.lists.Lists.new.Goals as goal

pub returns-clause-needs : goal.returns-clause-needs
returns-clause-needs c =
    begun_needs c.as_slice-gates.result.now c.loop-gate.gate-index c.loop-gate.rows.items c.loop-gate.invariant.rows
    (omega (arith, c.loop-gate-test.false))
    ∙ ap (λ gates. map (needs_of gates) gates) c.as_slice-gates.ensures

pub returns-clause-lists : goal.returns-clause-lists
returns-clause-lists c =
    begun_lists c.as_slice-gates.result.now c.loop-gate.gate-index c.loop-gate.rows.items c.loop-gate.invariant.rows
    (omega (arith, c.loop-gate-test.false))

pub returns-clause-empty : goal.returns-clause-empty
returns-clause-empty c =
    all_begun c.as_slice-gates.result.now c.loop-gate.gate-index c.loop-gate.rows.items c.loop-gate.invariant.rows
    (omega (arith, c.loop-gate-test.false))
