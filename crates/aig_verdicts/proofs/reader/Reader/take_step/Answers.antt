use Rattle.std.proofs.Common.{◌∙◌, Bool, None, Some, ap, if◌then◌else◌, length, map, refl, sym, ℕ}
use Rattle.aig_lasso.specs.Runs.{value_held}
use Rattle.aig_step.specs.Parts.Lines.{vector_in}
use Rattle.aig_verdicts.specs.Parts.Reading.{run_of}
use Rattle.aig_verdicts.proofs.reader.Reader.take_step.Goals as goal

pub returns-clause-good : goal.returns-clause-good
returns-clause-good c = λ _.
    let text = c.args.text.now in
    let said = ap (λ (n : ℕ). vector_in n text) (sym c.count_inputs.ensures) ∙ c.says_step.ensures
    ∙ ap (λ (b : Bool). if b then Some (map value_held text) else None) c.if-not-says_step.false in
    rw (← c.self.view_is)
    (record {
      given = map value_held text;
      said = said;
      same = record { circuit = refl; justices = refl };
      stage = refl;
      property = refl;
      held = λ claim is. c.hold_step.ensures (run_of (length c.self.inside.checker.circuit.inputs) claim)
          (map value_held text) (rw c.take.ensures.value is) said;
    })
