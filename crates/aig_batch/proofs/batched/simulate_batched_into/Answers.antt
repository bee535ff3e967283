use Rattle.std.proofs.Common.{ap, refl, rules, subst, sym, ◌∙◌}
use Rattle.std.specs.Borrow.{MutBor}
use Rattle.aig_io.specs.Runs.{AtEnd}
use Rattle.aig_io.proofs.Runs.{read_weaker}
use Rattle.aig_trace.proofs.Taken.{lent_took, ran_lent, ran_none}
use Rattle.aig_batch.specs.Batched.{BatchSays}
use Rattle.aig_batch.proofs.Batching.{nothing_taken}
use Rattle.aig_batch.proofs.batched.simulate_batched_into.Goals as goal

pub returns-in_default-clause-ran : goal.returns-in_default-clause-ran
returns-in_default-clause-ran g c = ran_none _ _ _ _ (tt, refl) c.requires.fine

pub returns-in-Err-clause-ran : goal.returns-in-Err-clause-ran
returns-in-Err-clause-ran g c =
    read_weaker _ _ _ _ (λ bytes ending said. nothing_taken _ _ _ bytes ending _ _ said c.requires.fine)
    c.in-Err.ensures.err

pub returns-clause-ran : goal.returns-clause-ran
returns-clause-ran g c =
    let same = (lent_took _ _ _ c.trace_collected-traced.ensures.taken.took).same in
    ran_lent g.T.RowTaker.failed (BatchSays c.args.checked.now c.args.columns c.trace_collected-traced.result.0) _ _
    c.new-lent.result c.trace_collected-traced.result.1 c.into_taker-output.result _ _
    (ap (λ (b : MutBor g.row.T.Denot). b.now) c.new-lent.ensures) c.into_taker-output.ensures (search rules)
    (record {
      bytes = c.deref.result.now;
      ending = AtEnd;
      says = c.trace_collected-traced.ensures.taken;
      came = rw (← c.deref.ensures.value) at c.in-Ok-collect.ensures.came;
    })

pub returns-clause-sent : goal.returns-clause-sent
returns-clause-sent g c =
    let same = (lent_took _ _ _ c.trace_collected-traced.ensures.taken.took).same in
    subst g.T.RowTaker.is_settled
    (ap (λ (b : MutBor g.row.T.Denot). b.now) (sym c.into_taker-output.ensures) ∙ search rules)
    c.trace_collected-traced.ensures.sent
