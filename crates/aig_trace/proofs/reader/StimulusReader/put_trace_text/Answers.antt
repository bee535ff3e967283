use Rattle.aig_trace.proofs.Traced.{put_all}
use Rattle.aig_trace.proofs.reader.StimulusReader.put_trace_text.Goals as goal

pub returns : goal.returns
returns g c =
    let new = c.into_line_tracer-feeder.ensures in
    rw c.into_output.ensures
    (put_all _ c.args.bytes.now _ _ _ _ _ _ _ _ _ c.requires new.feeder new.lines c.feed-whole.ensures.folded
    c.end-last.ensures.folded c.settle.ensures.did c.settle.ensures.settled c.end_run.ensures)
