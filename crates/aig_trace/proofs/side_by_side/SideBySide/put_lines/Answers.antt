use Rattle.std.proofs.Common.{◌∙◌, ◌<◌, arith, length}
use Rattle.aig_trace.specs.Parts.Waits.{entries_of}
use Rattle.aig_trace.proofs.Shows.{did_on, shows_still}
use Rattle.aig_trace.proofs.side_by_side.SideBySide.put_lines.Goals as goal

pub put_line-requires-clause-shows : goal.put_line-requires-clause-shows
put_line-requires-clause-shows g c =
    let i = c.loop-line.invariant in
    shows_still c.args.self.now c.loop-line.self i.did.same i.lanes c.requires

pub loop-line-preserved : goal.loop-line-preserved
loop-line-preserved g c =
    let i = c.loop-line.invariant in
    let es = entries_of c.args.self.now.waiting in
    let lanes = c.put_line.ensures.lanes in
    let below : c.loop-line.line < length es = omega (arith, c.loop-line-test.true, c.len-line-end.ensures.each) in
    record {
      did = did_on c.args.self.now.tracer c.loop-line.self.tracer c.put_line.new.self.tracer es c.loop-line.line
          c.args.output.now c.loop-line.output c.put_line.new.output below i.did
          (rw (← i.lanes.waiting) c.put_line.ensures.did);
      lanes = record {
        waiting = lanes.waiting ∙ i.lanes.waiting;
        shown = lanes.shown ∙ i.lanes.shown;
        sheet = lanes.sheet ∙ i.lanes.sheet;
      };
    }
