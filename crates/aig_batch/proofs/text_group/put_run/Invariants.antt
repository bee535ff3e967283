use Rattle.std.specs.Prelude.{◌≡◌, length}
use Rattle.aig_lanes.specs.Parts.LaneTexts.{kept_text}
use Rattle.aig_lanes.specs.Parts.Sheets.{text_in}
use Rattle.aig_trace.specs.Taken.{Took}
use Rattle.aig_batch.proofs.text_group.put_run.Given as goal

abbrev pub invariant-loop-step : goal.invariant-loop-step
invariant-loop-step g l = record {
  put : Took g.T.RowTaker.took l.fn.output l.output (kept_text l.shown l.run l.step (text_in l.lane l.sheet));
  line : length l.line ≡ length l.fn.line;
}
