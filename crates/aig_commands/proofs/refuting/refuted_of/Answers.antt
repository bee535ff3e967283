use Rattle.aig_commands.proofs.refuting.refuted_of.Goals as goal

pub returns-then-request-clause-ok : goal.returns-then-request-clause-ok
returns-then-request-clause-ok c = record {
  unrolled = c.in_ok-unrolled.unrolled;
  formed = rw c.as_checked.ensures.value at c.circuit-circuit.ensures.well_formed;
  is_unrolled = c.in_ok-unrolled.ensures.ok;
  is_reduced = rw c.if-request.true c.in_ok-reduce.ensures;
}
