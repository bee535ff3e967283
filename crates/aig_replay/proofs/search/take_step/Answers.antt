use Rattle.std.proofs.Common.{ℕ, List, map, ap, ap₂, refl, ◌∙◌}
use Rattle.aig_circuit.specs.declared.circuit.Circuit.{Circuit}
use Rattle.aig_circuit.specs.declared.value.Val.{Val}
use Rattle.aig_meaning.specs.Meaning.{literal_value}
use Rattle.aig_step.specs.Parts.Lines.{row_read}
use Rattle.aig_step.specs.Parts.Stepping.{Stepping, in_next_state}
use Rattle.aig_step.specs.Parts.Tables.{read_from}
use Rattle.aig_step.proofs.LineValues.{row_is_read}
use Rattle.aig_replay.specs.Finding.{shown_by}
use Rattle.aig_replay.proofs.search.take_step.Goals as goal

pub returns-clause-took : goal.returns-clause-took
returns-clause-took c =
    let old = c.args.stepper.now in
    let values = c.evaluate_text.new.self.values in
    let said = c.evaluate_text.ensures.good c.if-not-evaluate_text.false in
    let went = c.enter_next_state.ensures ∙ ap in_next_state said.2.stays in
    let is_values = c.values.ensures.is ∙ ap (λ (s : Stepping). s.values) went in
    let circuit = c.machine.ensures ∙ ap (λ (s : Stepping). s.circuit) went in
    let constraints = c.as_slice.ensures ∙ c.parts-parts.ensures.constraints
    ∙ ap (λ (k : Circuit). k.constraints) circuit in
    let bad = c.as_slice-2.ensures ∙ c.parts-parts.ensures.bad ∙ ap (λ (k : Circuit). k.bad) circuit in (
      said.0,
      said.1,
      record {
        row = row_read old.circuit old.state said.0 (read_from values);
        is_row = row_is_read old.circuit old.state said.0 (read_from values) said.2.assigned;
        from = refl;
        inputs = refl;
        leads = ap (λ (s : Stepping). s.state) went;
        shows = c.show.ensures
            ∙ ap₂ (λ (vs : List Val) (ls : List ℕ). shown_by (map (literal_value (read_from vs)) ls)
            (map (literal_value (read_from vs)) c.as_slice-2.result.now)) is_values constraints
            ∙ ap (λ (ls : List ℕ). shown_by (map (literal_value (read_from values)) old.circuit.constraints)
            (map (literal_value (read_from values)) ls)) bad;
      },
    )
