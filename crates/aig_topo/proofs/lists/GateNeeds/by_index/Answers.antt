use Rattle.std.proofs.Common.{◌∙◌, ap, arith, map}
use Rattle.aig_topo.specs.Needs.{needs_of}
use Rattle.aig_topo.proofs.Ordering.Rows.{begun_needs, begun_lists, all_begun}
use Rattle.aig_topo.proofs.lists.GateNeeds.by_index.Goals as goal

pub returns : goal.returns
returns c =
    record {
      needs = begun_needs c.as_slice-gates.result.now c.loop-gate.gate-index c.loop-gate.rows.items
          c.loop-gate.invariant.rows (omega (arith, c.loop-gate-test.false))
          ∙ ap (λ gates. map (needs_of gates) gates) c.as_slice-gates.ensures;
      counts = c.loop-gate.invariant.counts;
      lists = begun_lists c.as_slice-gates.result.now c.loop-gate.gate-index c.loop-gate.rows.items
          c.loop-gate.invariant.rows (omega (arith, c.loop-gate-test.false));
      empty = all_begun c.as_slice-gates.result.now c.loop-gate.gate-index c.loop-gate.rows.items
          c.loop-gate.invariant.rows (omega (arith, c.loop-gate-test.false));
    }
