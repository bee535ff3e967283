use Rattle.aig_trace.proofs.Traced.{flushed, folded_settled}
use Rattle.aig_trace.proofs.stream.trace_chunk.Goals as goal

pub returns-clause-folded : goal.returns-clause-folded
returns-clause-folded g c = λ at stands.
    flushed _ _ _ _
    (folded_settled _ _ _ _ (c.feed-good.ensures.folded at stands) c.settle.ensures.did c.settle.ensures.settled)
    c.flush-sent.ensures.same c.flush-sent.ensures.waits c.flush-sent.ensures.put
