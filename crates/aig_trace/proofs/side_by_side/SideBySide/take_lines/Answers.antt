use Rattle.std.proofs.Common.{◌∙◌, ◌<◌, ap, arith, get_or, length, sym}
use Rattle.aig_circuit.specs.declared.circuit.Circuit.{Circuit}
use Rattle.aig_step.specs.Stimulus.{Stop}
use Rattle.aig_trace.specs.Parts.Waits.{entries_of}
use Rattle.aig_trace.proofs.Shows.{did_on, taken}
use Rattle.aig_trace.proofs.side_by_side.SideBySide.take_lines.Goals as goal

pub loop-line-preserved : goal.loop-line-preserved
loop-line-preserved g c =
    let i = c.loop-line.invariant in
    let a = c.args.self.now in
    let es = entries_of a.waiting in
    let below : c.loop-line.line < length es = omega (arith, c.loop-line-test.true, c.len-line-end.ensures.each) in
    let t = c.loop-line.self.tracer in
    let u = c.take_line-good.new.self in
    let line = taken t u c.loop-line.output c.take_line-good.new.output a.waiting.inputs c.line_text.result.now
    (get_or es c.loop-line.line Stop) c.take_line-good.result
    (a.serves.inputs ∙ ap (λ (k : Circuit). length k.inputs) (sym i.did.same.circuit))
    (rw (← i.waits) c.line_text.ensures) c.take_line-good.ensures.same c.take_line-good.ensures.good
    c.take_line-good.ensures.bad in
    record {
      did = did_on a.tracer t u es c.loop-line.line c.args.output.now c.loop-line.output c.take_line-good.new.output
          below i.did line;
      waits = i.waits;
    }
