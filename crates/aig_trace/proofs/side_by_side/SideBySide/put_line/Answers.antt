use Rattle.std.proofs.Common.{◌∷◌, [], codes, refl, subst}
use Rattle.aig_step.specs.Stimulus.{Entry, Stop}
use Rattle.aig_trace.specs.Parts.Tracing.{Did, point_of}
use Rattle.aig_trace.proofs.RunTexts.{goes_one}
use Rattle.aig_trace.proofs.side_by_side.SideBySide.put_line.Goals as goal

pub returns-in-Some-clause-did : goal.returns-in-Some-clause-did
returns-in-Some-clause-did g c =
    subst
    (λ (e : Entry). Did g.T.RowTaker.took c.args.self.now.tracer c.put_step.new.self.tracer (e ∷ []) c.args.output.now
    c.put_step.new.output)
    c.in-Some.ensures.says c.put_step.ensures.did

pub returns-in-None-clause-did : goal.returns-in-None-clause-did
returns-in-None-clause-did g c =
    let t = c.args.self.now.tracer in
    let u = c.stop.new.self in
    subst (λ (e : Entry). Did g.T.RowTaker.took t u (e ∷ []) c.args.output.now c.stop.new.output) c.in-None.ensures.says
    (record {
      same = c.stop.ensures.same;
      text = codes ".\n";
      goes = goes_one t.circuit t.columns (point_of t) (point_of u) Stop (codes ".\n") (c.stop.ensures.point, refl);
      put = c.stop.ensures.put;
    })
