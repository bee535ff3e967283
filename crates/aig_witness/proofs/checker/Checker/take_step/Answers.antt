use Rattle.std.proofs.Common.{ℕ, List, map, ap, ap₂, ◌∙◌}
use Rattle.aig_circuit.specs.declared.circuit.Circuit.{Circuit}
use Rattle.aig_circuit.specs.declared.value.Val.{Val}
use Rattle.aig_meaning.specs.Meaning.{literal_value}
use Rattle.aig_witness.specs.declared.search.StepSearch.{StepSearch}
use Rattle.aig_step.specs.Parts.Stepping.{Stepping, in_next_state}
use Rattle.aig_step.specs.Parts.Tables.{read_from}
use Rattle.aig_witness.specs.Parts.Witnessing.{are_ones, is_one, looked}
use Rattle.aig_witness.proofs.checker.Checker.take_step.Goals as goal

pub returns-clause-good : goal.returns-clause-good
returns-clause-good c = λ _.
    let said = c.evaluate_text.ensures.good c.if-not-evaluate_text.false in
    let search = c.self.inside.search in
    let went = c.enter_next_state.ensures ∙ ap in_next_state c.evaluate_text.ensures.stays in
    let values = c.values-values.ensures.is ∙ ap (λ (s : Stepping). s.values) went in
    let constraints = c.as_slice-constraints.ensures ∙ c.parts.ensures.constraints
    ∙ ap (λ (k : Circuit). k.constraints) (c.machine.ensures ∙ ap (λ (s : Stepping). s.circuit) went) in
    let bad = c.is_one-is_bad.ensures
    ∙ ap is_one (c.value.ensures ∙ ap (λ vs. literal_value (read_from vs) search.literal) values) in
    let hold = c.are_ones-hold.ensures
    ∙ ap₂ (λ (vs : List Val) (ls : List ℕ). are_ones (map (literal_value (read_from vs)) ls)) values constraints in
    rw (← c.self.view_is)
    (record {
      given = said.0;
      values = read_from c.evaluate_text.new.self.values;
      said = said.1;
      assigned = said.2.assigned;
      leads = ap₂ (λ (s : Stepping) (found : StepSearch). record {
        circuit = s.circuit;
        due = c.self.inside.due;
        state = s.state;
        search = found;
      })
          went (c.look.ensures ∙ ap₂ (λ b h. looked search b h) bad hold);
    })
