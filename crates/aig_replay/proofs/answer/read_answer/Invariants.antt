use Rattle.aig_replay.proofs.Reading.{HasRead}
use Rattle.aig_replay.proofs.answer.read_answer.Given as goal

abbrev pub invariant-loop-count : goal.invariant-loop-count
invariant-loop-count g l =
    let r = g.R.Source in
    HasRead (r.history l.fn.answer) (r.history l.answer) l.fn.bits l.bits l.reader

abbrev pub decreases-loop-count : goal.decreases-loop-count
decreases-loop-count g l = g.R.Source.bound l.answer
