use Rattle.std.proofs.Common.{◌∙◌, if◌then◌else◌, Some, None, Bool, codes, length, refl, ap, sym}
use Rattle.aig_step.specs.Stimulus.{Step, Stop}
use Rattle.aig_trace.specs.Parts.Progress.{begin_of}
use Rattle.aig_step.proofs.LineValues.{vector_none, vector_says}
use Rattle.aig_trace.proofs.tracer.Tracer.take_line.Goals as goal

pub returns-then-take_step-clause-good : goal.returns-then-take_step-clause-good
returns-then-take_step-clause-good g c = λ _.
    let took = c.take_step.ensures.good c.if-take_step.true in
    record {
      entry = Step took.given;
      line = took.line;
      said = vector_says (length c.args.self.now.circuit.inputs) c.args.text.now took.given took.said;
      does = took.steps;
      put = took.put;
    }

pub returns-then-not-is_stop-clause-bad : goal.returns-then-not-is_stop-clause-bad
returns-then-not-is_stop-clause-bad g c = λ _.
    vector_none (length c.args.self.now.circuit.inputs) c.args.text.now (c.take_step.ensures.bad c.if-take_step.false)
    ∙ ap (λ (stop : Bool). if stop then Some Stop else None) (sym c.is_stop.ensures ∙ c.if-not-is_stop.true)

pub returns-clause-good : goal.returns-clause-good
returns-clause-good g c = λ _.
    record {
      entry = Stop;
      line = codes ".\n";
      said = vector_none (length c.args.self.now.circuit.inputs) c.args.text.now
          (c.take_step.ensures.bad c.if-take_step.false)
          ∙ ap (λ (stop : Bool). if stop then Some Stop else None) (sym c.is_stop.ensures ∙ c.if-not-is_stop.false);
      does = (c.stop.ensures.point ∙ ap begin_of c.take_step.ensures.same.circuit, refl);
      put = rw (c.take_step.ensures.none c.if-take_step.false) at c.stop.ensures.put;
    }
