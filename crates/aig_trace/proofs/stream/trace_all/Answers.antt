use Rattle.std.proofs.Common.{◌∙◌, ap, refl, sym, arith}
use Rattle.std.proofs.lemmas.Result.{err_from_is_err_and}
use Rattle.aig_io.specs.Devices.{failed_once}
use Rattle.aig_io.specs.Runs.{AtEnd, Broken, Open}
use Rattle.aig_lines.proofs.Tells.{at_end, reached_more, reached_none}
use Rattle.aig_trace.specs.Parts.Saying.{say_line}
use Rattle.aig_trace.specs.Parts.Tracing.{HasTraced, tracing_task}
use Rattle.aig_trace.proofs.Ending.{ended_well, ends, interrupted}
use Rattle.aig_trace.proofs.Traced.{begun, traced_so_far}
use Rattle.aig_trace.proofs.stream.trace_all.Goals as goal

pub loop-count-init : goal.loop-count-init
loop-count-init g c = record {
  reached = reached_none say_line (HasTraced g.T.RowTaker.took) _ _ c.args.feeder.now c.args.lines.now _
      c.requires.initial c.requires.limit (begun c.args.lines.now c.requires.begun c.requires.settled);
  settled = c.requires.settled;
  going = c.requires.initial.refused;
  sent = c.requires.sent;
  fine = c.requires.fine;
  number = λ low. omega (arith, c.requires.initial.number, low);
}

pub returns-in_default-clause-ran : goal.returns-in_default-clause-ran
returns-in_default-clause-ran g c =
    let i = c.loop-count.invariant in
    interrupted _ _ i.reached.bytes Broken _ _ c.loop-count.feeder _
    (traced_so_far (tracing_task c.args.lines.now) _ _ _ _ i.reached i.settled) _ _
    (c.in_default.ensures.history ∙ ap failed_once i.reached.history) refl i.fine i.going

pub returns-then-count-eq0-clause-ran : goal.returns-then-count-eq0-clause-ran
returns-then-count-eq0-clause-ran g c =
    let r = c.loop-count.invariant.reached in
    let gave = rw c.if-count-eq0.true at c.in-Ok.ensures.history in
    ends _ _ r.bytes AtEnd _ _ c.trace_end.new.feeder _
    (c.trace_end.ensures.traced (tracing_task c.args.lines.now) r.bytes r.stands) _ _
    (gave ∙ ap at_end r.history) c.trace_end.result tt c.trace_end.ensures.ended (λ _. refl)

pub returns-in_err-trace_chunk-clause-ran : goal.returns-in_err-trace_chunk-clause-ran
returns-in_err-trace_chunk-clause-ran g c =
    let h = err_from_is_err_and c.from_residual.result c.from_residual.ensures.1 in
    let now = reached_more say_line (HasTraced g.T.RowTaker.took) _ _ _ _ _ _ _ _ _ _ _ _
    c.loop-count.invariant.reached c.in-Ok.ensures.history (omega arith) c.split_at.ensures.front
    c.trace_chunk.ensures.folded in
    rw (h.1, h.2)
    (ends _ _ now.bytes Open _ _ c.trace_chunk.new.feeder _ (traced_so_far (tracing_task c.args.lines.now) _ _ _ _ now
    c.trace_chunk.ensures.settled)
    _ _ now.history _ tt (sym c.in_err-trace_chunk.was ∙ c.trace_chunk.ensures.ended) (λ ok. cc))

pub loop-count-preserved : goal.loop-count-preserved
loop-count-preserved g c =
    let well = ended_well _ _ _ _ (sym c.trace_chunk.ensures.ended ∙ c.in_ok-trace_chunk.was) in
    record {
      reached = reached_more say_line (HasTraced g.T.RowTaker.took) _ _ _ _ _ _ _ _ _ _ _ _
          c.loop-count.invariant.reached c.in-Ok.ensures.history (omega arith) c.split_at.ensures.front
          c.trace_chunk.ensures.folded;
      going = well.1;
      settled = c.trace_chunk.ensures.settled;
      sent = c.trace_chunk.ensures.sent;
      fine = well.0;
      number = λ _.
          omega (
            arith,
            c.loop-count.invariant.number c.fetch.ensures.limited,
            c.in-Ok.ensures.bound,
            c.trace_chunk.ensures.number,
            c.split_at.ensures.front_len,
          );
    }
