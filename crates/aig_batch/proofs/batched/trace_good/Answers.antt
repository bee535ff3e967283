use Rattle.aig_batch.proofs.Batching.{put_behind, taken_so}
use Rattle.aig_batch.proofs.batched.trace_good.Goals as goal

pub returns-clause-taken : goal.returns-clause-taken
returns-clause-taken g c = λ circuit bytes means says none.
    let put = rw (← c.requires.same, c.machine.ensures) at c.put_groups.ensures in
    let all = put_behind circuit c.args.reader.tracing.circuit c.args.reader.tracing bytes c.args.rest.now
    c.args.groups.now _ _ _ means means says none put c.put_trace_text.ensures in
    taken_so circuit c.args.reader.tracing.columns bytes _ _ _ _ _ all c.flushed.ensures.took c.flushed.ensures.outcome
