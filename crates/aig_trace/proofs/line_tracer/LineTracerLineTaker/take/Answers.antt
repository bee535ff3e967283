use Rattle.std.proofs.Common.{ap, refl, subst}
use Rattle.aig_trace.specs.declared.side_by_side.SideBySide.{SideBySide}
use Rattle.aig_trace.specs.declared.taker.Taker.{Taker}
use Rattle.aig_trace.specs.declared.taker.Taker.TheVariants as takers
use Rattle.aig_trace.specs.Parts.Taking.{tracing_in, waiting_in}
use Rattle.aig_trace.specs.Parts.Tracing.{HasTraced, LineTracing}
use Rattle.aig_trace.specs.Parts.Waits.{entries_of}
use Rattle.aig_trace.proofs.Traced.{accepted_alone, accepted_line}
use Rattle.aig_trace.proofs.line_tracer.LineTracerLineTaker.take.Goals as goal

abbrev lines_of : {W : Type 0} → Taker → W → LineTracing W
lines_of taker output = record { tracing = tracing_in taker; waiting = waiting_in taker; output = output }

pub returns-in-InTurn-clause-took : goal.returns-in-InTurn-clause-took
returns-in-InTurn-clause-took g c = λ s stands.
    let i = c.self.inside in
    let t = lines_of (takers.InTurn c.in-InTurn.tracer) i.output in
    let u = lines_of (takers.InTurn c.take_line.new.self) c.take_line.new.output in
    let took = c.take_line.ensures in
    let at : HasTraced g.T.RowTaker.took t s =
    subst (λ (k : Taker). HasTraced g.T.RowTaker.took (lines_of k i.output) s) c.in-InTurn.is
    (rw c.self.view_is stands) in
    accepted_line t u s at c.args.text.now c.take_line.result
    (λ is. accepted_alone t u c.args.text.now refl refl took.same (took.good is))
    (λ is. (took.bad is, took.stays is, refl, took.none is))

pub returns-in-SideBySide-clause-took : goal.returns-in-SideBySide-clause-took
returns-in-SideBySide-clause-took g c = λ s stands.
    let i = c.self.inside in
    let took = c.take_line-in-SideBySide.ensures in
    let now = c.take_line-in-SideBySide.new in
    let t = lines_of (takers.SideBySide c.in-SideBySide.side_by_side) i.output in
    let u = lines_of (takers.SideBySide now.self) now.output in
    let at : HasTraced g.T.RowTaker.took t s =
    subst (λ (k : Taker). HasTraced g.T.RowTaker.took (lines_of k i.output) s) c.in-SideBySide.is
    (rw c.self.view_is stands) in
    accepted_line t u s at c.args.text.now c.take_line-in-SideBySide.result took.good
    (λ is.
    let same = took.stays is in (
      took.bad is,
      ap (λ (x : SideBySide). x.tracer) same.1,
      ap (λ (x : SideBySide). entries_of x.waiting) same.1,
      same.0,
    ))
