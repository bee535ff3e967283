use Rattle.std.proofs.Common.{◌≡◌, ◌∙◌, ◌+◌, ◌*◌, ◌++◌, ◌∷◌, ℕ, List, [], Some, ap, drop, is_some, length, map, set}
use Rattle.std.proofs.Common.{subst, sym, take, true}
use Rattle.std.proofs.lemmas.List.{with_items_is}
use Rattle.aig_lanes.specs.Parts.Vectors.{said}
use Rattle.aig_lanes.proofs.Side.Sheets.{said_is}
use Rattle.aig_step.specs.Parts.Lines.{vector_in}
use Rattle.aig_step.specs.Stimulus.{Step, values_of}
use Rattle.aig_step.proofs.LineValues.{vector_long}
use Rattle.aig_trace.specs.Parts.WaitingRoom.{IsWaiting}
use Rattle.aig_trace.specs.Parts.Waits.{entries_of, entry_at}
use Rattle.aig_trace.proofs.Waits.{step_added, step_waits, vector_values}
use Rattle.aig_trace.proofs.waiting.Waiting.push_step.Goals as goal

pub invariant_of-self : goal.invariant_of-self
invariant_of-self c =
    let w = c.args.self.now in
    let text = c.args.text.now in
    let after = c.overwrite.new.texts in
    let vector = said_is (vector_in w.inputs text) c.requires.says in
    let long : length text ≡ w.inputs = vector_long w.inputs text (said (vector_in w.inputs text)) vector in
    let good : is_some (values_of text) ≡ true =
    ap is_some (vector_values w.inputs text (said (vector_in w.inputs text)) vector) in
    let before : take (w.steps * w.inputs) after ≡ take (w.steps * w.inputs) w.texts.items =
    c.overwrite.ensures.before ∙ ap (take (w.steps * w.inputs)) c.deref_mut.ensures.value in
    let here : take w.inputs (drop (w.steps * w.inputs) after) ≡ text =
    ap (λ (n : ℕ). take n (drop (w.steps * w.inputs) after)) (sym long) ∙ c.overwrite.ensures.here in
    let size : length after ≡ length w.texts.items = c.overwrite.auto.texts ∙ ap length c.deref_mut.ensures.value in
    record {
      is = subst
          (λ (ts : List ℕ). IsWaiting w.inputs (w.steps + 1) (w.count + 1) ts
          (set w.lines.items w.count (Some w.steps)))
          (sym (with_items_is w.texts after (c.overwrite.auto.texts ∙ c.deref_mut.ensures.len)))
          (step_waits w.inputs w.steps w.count w.texts.items after text w.lines.items w.is c.requires.room.lines
          c.requires.room.steps size before here good);
    }

pub returns-clause-adds : goal.returns-clause-adds
returns-clause-adds c given says =
    let w = c.args.self.now in
    let text = c.args.text.now in
    let after = c.overwrite.new.texts in
    let long : length text ≡ w.inputs = vector_long w.inputs text given says in
    let before : take (w.steps * w.inputs) after ≡ take (w.steps * w.inputs) w.texts.items =
    c.overwrite.ensures.before ∙ ap (take (w.steps * w.inputs)) c.deref_mut.ensures.value in
    let here : take w.inputs (drop (w.steps * w.inputs) after) ≡ text =
    ap (λ (n : ℕ). take n (drop (w.steps * w.inputs) after)) (sym long) ∙ c.overwrite.ensures.here in
    let size : length after ≡ length w.texts.items = c.overwrite.auto.texts ∙ ap length c.deref_mut.ensures.value in
    subst
    (λ (ts : List ℕ). map (entry_at w.inputs ts) (take (w.count + 1) (set w.lines.items w.count (Some w.steps)))
    ≡ entries_of w ++ Step given ∷ [])
    (sym (with_items_is w.texts after (c.overwrite.auto.texts ∙ c.deref_mut.ensures.len)))
    (step_added w.inputs w.steps w.count w.texts.items after text w.lines.items w.is c.requires.room.lines
    c.requires.room.steps size before here given says)
