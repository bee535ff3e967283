use Rattle.std.proofs.Common.{◌≡◌, ◌+◌, ◌∙◌, Bool, List, None, Some, add-one, ap, if◌then◌else◌, length}
use Rattle.std.proofs.Common.{map, suc, ℕ}
use Rattle.aig_circuit.specs.declared.value.Val.{Val}
use Rattle.aig_step.proofs.LineValues.{vector_back, vector_long}
use Rattle.aig_lasso.specs.Runs.{steps_held, value_held}
use Rattle.aig_lasso.proofs.Characters.{holds_more, one_more}
use Rattle.aig_lasso.proofs.held.HeldRun.push_step.Goals as goal

pub invariant_of-self-2 : goal.invariant_of-self-2
invariant_of-self-2 c =
    let run = c.self.inside in
    let text = c.args.text.now in
    let said = c.says_step.ensures
    ∙ ap (λ (b : Bool). if b then Some (map value_held text) else None) c.if-not-says_step.false in
    let next : c.in-Some.count ≡ run.count + 1 = c.in-Some.ensures.1 in
    rw (c.in_ok-extend_from_slice.ensures.items, next)
    (holds_more run.first.items run.steps.items text run.inputs run.count c.self.invariant
    (vector_back run.inputs text (map value_held text) said) (vector_long run.inputs text (map value_held text) said))

pub returns-clause-good : goal.returns-clause-good
returns-clause-good c = λ _.
    let run = c.self.inside in
    let text = c.args.text.now in
    let said = c.says_step.ensures
    ∙ ap (λ (b : Bool). if b then Some (map value_held text) else None) c.if-not-says_step.false in
    let long : length text ≡ run.inputs = vector_long run.inputs text (map value_held text) said in
    let next : c.in-Some.count ≡ suc run.count = c.in-Some.ensures.1 ∙ add-one run.count in
    rw (← c.self.view_is) (
      map value_held text,
      said,
      ap (λ (steps : List (List Val)). record {
        inputs = run.inputs;
        first = map value_held run.first.items;
        steps = steps;
      })
          (ap (λ (n : ℕ). steps_held run.inputs n c.extend_from_slice.new.self.items) next
          ∙ ap (steps_held run.inputs (suc run.count)) c.in_ok-extend_from_slice.ensures.items
          ∙ one_more run.inputs run.count run.steps.items text c.self.invariant.whole long),
    )
