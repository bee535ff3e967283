use Rattle.std.proofs.Common.{◌∙◌, arith, rules}
use Rattle.aig_io.proofs.Took.{gave_next}
use Rattle.aig_replay.proofs.Reading.{has_read_more, read_wrong}
use Rattle.aig_replay.proofs.answer.read_answer.Goals as goal

pub returns-then-matches-clause-err : goal.returns-then-matches-clause-err
returns-then-matches-clause-err g c =
    let next = rw (← c.split_at.ensures.front) at (c.in-Ok.ensures.history
    ∙ gave_next _ c.in-Ok.count _ (omega arith)) in
    rw c.refused_at.ensures
    (read_wrong _ _ _ _ _ c.loop-count.invariant _ c.split_at.result.0.now _ _ next c.read_values-reader.ensures
    (search rules))

pub loop-count-preserved : goal.loop-count-preserved
loop-count-preserved g c =
    let next = rw (← c.split_at.ensures.front) at (c.in-Ok.ensures.history
    ∙ gave_next _ c.in-Ok.count _ (omega arith)) in
    has_read_more _ _ _ _ _ c.loop-count.invariant _ c.split_at.result.0.now _ _ next c.read_values-reader.ensures
    (search rules)
