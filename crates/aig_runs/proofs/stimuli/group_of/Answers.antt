use Rattle.std.proofs.Common.{◌≡◌, ◌<◌, ◌∙◌, ◌++◌, ◌∷◌, [], List, ap, ap₂, get_or, length, map, sym, ℕ, flat_map}
use Rattle.std.proofs.lemmas.List.{get_or-map, take_more}
use Rattle.aig_circuit.specs.declared.value.Val.{Val}
use Rattle.aig_lanes.specs.declared.run.Run.{Run}
use Rattle.aig_step.specs.TraceText.{values_text}
use Rattle.aig_lanes.specs.Parts.Vectors.{vectors_in}
use Rattle.aig_runs.proofs.StepTexts.{are_vectors, vectors_said}
use Rattle.aig_runs.proofs.stimuli.group_of.Goals as goal

abbrev run_of : List (List Val) → Run
run_of steps = record { steps = steps }

abbrev text_of_run : Run → List ℕ
text_of_run run = flat_map values_text run.steps

-- the text of a run is found at its place
text_at : (runs : List Run) (texts : List (List ℕ)) (i : ℕ) (d : Run) (text found : List ℕ)
    → texts ≡ map text_of_run runs → i < length runs → text ≡ get_or texts i text → found ≡ text
    → found ≡ text_of_run (get_or runs i d)
text_at runs texts i d text found are below is_text is =
    is ∙ is_text ∙ ap (λ (ts : List (List ℕ)). get_or ts i text) are ∙ get_or-map text_of_run runs i d text below

pub new-requires : goal.new-requires
new-requires c =
    let d = c.index-runs-i.result in
    let run = get_or c.args.runs.now c.loop-i.i d in
    let below = c.loop-i-test.true in
    let text = text_at c.args.runs.now c.args.texts.now c.loop-i.i d c.index-texts-i.result c.as_slice.result.now
    c.requires.texts below c.index-texts-i.is c.as_slice.ensures in
    rw (c.len-steps.ensures, text) (are_vectors c.args.inputs run.steps (c.requires.fits c.loop-i.i d below))

pub loop-i-preserved : goal.loop-i-preserved
loop-i-preserved c =
    let d = c.index-runs-i.result in
    let runs = c.args.runs.now in
    let run = get_or runs c.loop-i.i d in
    let inputs = c.args.inputs in
    let below = c.loop-i-test.true in
    let text = text_at runs c.args.texts.now c.loop-i.i d c.index-texts-i.result c.as_slice.result.now
    c.requires.texts below c.index-texts-i.is c.as_slice.ensures in
    let steps = c.new.ensures ∙ ap₂ (vectors_in inputs inputs) c.len-steps.ensures text
    ∙ vectors_said inputs run.steps (c.requires.fits c.loop-i.i d below) in
    c.in_ok-push.ensures.items
    ∙ ap₂ (λ (rs : List Run) r. rs ++ r ∷ []) c.loop-i.invariant (ap run_of steps)
    ∙ sym (take_more runs c.loop-i.i d below)
