use Rattle.std.proofs.Common.{◌∙◌, false, sym, true}
use Rattle.aig_trace.proofs.Taken.{took_on}
use Rattle.aig_trace.proofs.Traced.{folded_settled, traced_all}
use Rattle.aig_trace.proofs.stream.trace_end.Goals.{then-good, else-good}
use Rattle.aig_trace.proofs.stream.trace_end.Goals as goal

pub returns-clause-traced : goal.returns-clause-traced
returns-clause-traced g c = λ task bytes stands.
    let none = c.settle.ensures.settled in
    let folded = folded_settled _ _ _ _ (c.end-good.ensures.folded _ stands) c.settle.ensures.did none in
    elim c.if-good.branch [
      | then-good w ↦ traced_all task bytes c.end-good.new.self c.settle.new.self _ folded none true
          (sym w.if-good.true ∙ c.end-good.ensures.result)
          (took_on _ _ _ _ w.end_run.ensures (rw w.lines-is at c.flush-sent.ensures.put))
      | else-good w ↦ traced_all task bytes c.end-good.new.self c.settle.new.self _ folded none false
          (sym w.if-good.false ∙ c.end-good.ensures.result) (rw w.lines-is at c.flush-sent.ensures.put)
    ]
