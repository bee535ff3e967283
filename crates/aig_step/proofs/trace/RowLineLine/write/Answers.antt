use Rattle.std.proofs.Common.{◌∙◌, ap, arith}
use Rattle.std.proofs.lemmas.Grind.{common_steps}
use Rattle.std.proofs.lemmas.List.{take_more_set}
use Rattle.aig_circuit.specs.declared.circuit.Circuit.{Circuit}
use Rattle.aig_step.specs.Parts.Stepping.{row_of}
use Rattle.aig_step.proofs.LineValues.{columns_joined}
use Rattle.aig_step.proofs.trace.RowLineLine.write.Goals as goal

pub returns-clause-text : goal.returns-clause-text
returns-clause-text c =
    let s = c.args.stepper.now in
    let state = rw c.state.ensures.is at c.write_values-end.ensures.text in
    let inputs = rw c.requires.whole at c.write_text_column-end.ensures.text in
    let outputs = c.as_slice-outputs.ensures ∙ c.parts.ensures.outputs
    ∙ ap (λ (k : Circuit). k.outputs) c.machine.ensures in
    let column = rw (c.values.ensures.is, outputs) at c.write_column-end.ensures.text in
    let next = rw (c.state-2.ensures.is, c.enter_next_state.ensures) at c.write_values-end-2.ensures.text in
    let properties = rw c.enter_next_state.ensures
    at (c.write_properties-end.ensures.text s.state (row_of s).inputs) in
    rw (
      take_more_set c.write_properties-end.new.line c.write_properties-end.result 10 (grind (arith, common_steps)),
      properties,
      next,
      take_more_set c.write_column-end.new.line c.write_column-end.result 32 (grind (arith, common_steps)),
      column,
      inputs,
      state,
    )
    (columns_joined _ _ _ _ _ _)
