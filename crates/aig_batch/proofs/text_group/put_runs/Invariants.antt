use Rattle.std.specs.Prelude.{◌≡◌, length}
use Rattle.aig_batch.specs.Parts.RunsRead.{kept_texts, text_of_group}
use Rattle.aig_trace.specs.Taken.{Took}
use Rattle.aig_batch.proofs.text_group.put_runs.Given as goal

abbrev pub invariant-loop-lane : goal.invariant-loop-lane
invariant-loop-lane g l = record {
  put : Took g.T.RowTaker.took l.fn.output l.output (text_of_group (kept_texts l.shown l.runs l.lane l.sheet));
  line : length l.line ≡ length l.fn.line;
}
