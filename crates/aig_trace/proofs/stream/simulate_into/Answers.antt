use Rattle.std.proofs.Common.{ap, rules, subst, sym, ◌∙◌}
use Rattle.std.specs.Borrow.{MutBor}
use Rattle.aig_io.proofs.Runs.{read_weaker}
use Rattle.aig_step.specs.Outcome.{TraceSays}
use Rattle.aig_trace.proofs.Ending.{trace_says_too}
use Rattle.aig_trace.proofs.Taken.{ran_lent, same_lent}
use Rattle.aig_trace.proofs.stream.simulate_into.Goals as goal

-- what is said of the circuit that is run holds of the one that was given
pub returns-clause-ran : goal.returns-clause-ran
returns-clause-ran g c =
    let ends = rw (c.into_line_tracer-feeder.ensures.lines, c.in-Ok-new.ensures.columns)
    at c.trace_all-traced.ensures.ran in
    let same = same_lent _ _ _ _ _ _ ends in
    ran_lent g.T.RowTaker.failed (TraceSays c.args.checked.now c.args.columns c.trace_all-traced.result) _ _
    c.new-2.result c.trace_all-traced.new.lines.output c.into_output.result _ _
    (ap (λ (b : MutBor g.row.T.Denot). b.now) c.new-2.ensures) c.into_output.ensures (search rules)
    (read_weaker _ _ _ _ (λ bytes ending t. record {
      text = t.text;
      delivery = t.delivery;
      says = trace_says_too c.args.checked.now _ c.in-Ok-new.ensures.same c.args.columns c.trace_all-traced.result bytes
          ending t.text t.delivery t.says;
      took = t.took;
      tells = t.tells;
    }) ends)

pub returns-clause-sent : goal.returns-clause-sent
returns-clause-sent g c =
    let ends = rw (c.into_line_tracer-feeder.ensures.lines, c.in-Ok-new.ensures.columns)
    at c.trace_all-traced.ensures.ran in
    let same = same_lent _ _ _ _ _ _ ends in
    subst g.T.RowTaker.is_settled (ap (λ (b : MutBor g.row.T.Denot). b.now) (sym c.into_output.ensures) ∙ search rules)
    c.trace_all-traced.ensures.sent
