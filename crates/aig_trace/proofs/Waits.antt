-- Lines that wait for their text.
use Rattle.std.proofs.Common.{◌≡◌, ◌+◌, ◌*◌, ◌<◌, ◌≤◌, ◌==◌, ◌∷◌, ◌++◌, if◌then◌else◌, ◌∙◌, ℕ, suc, List, [], Bool}
use Rattle.std.proofs.Common.{true, false, Option, Some, None, ap, ap₂, arith, drop, get_or, inl, inr, is_some, length}
use Rattle.std.proofs.Common.{map, refl, set, sym, take}
use Rattle.std.proofs.lemmas.Bool.{cases_lt}
use Rattle.std.proofs.lemmas.List.{get_or-map, get_or-set_other, get_or-set_same, get_or-take, length-set}
use Rattle.std.proofs.lemmas.List.{length-take-le, map-append, take_more_set}
use Rattle.aig_circuit.specs.declared.value.Val.{Val}
use Rattle.aig_lanes.specs.Parts.Vectors.{AreVectors, said}
use Rattle.aig_lanes.proofs.Side.Sheets.{part_same, steps_within, more_vectors, said_is}
use Rattle.aig_step.specs.Parts.Lines.{vector_in}
use Rattle.aig_step.specs.Stimulus.{Entry, Step, Stop, entry_in, values_of}
use Rattle.aig_step.proofs.LineValues.{vector_says}
use Rattle.aig_trace.specs.Parts.WaitingRoom.{IsWaiting}
use Rattle.aig_trace.specs.Parts.Waits.{entry_at}

-- what a line says
pub entry_read : (inputs : ℕ) (texts : List ℕ) (lines : List (Option ℕ)) (count line : ℕ) → line < count
    → count ≤ length lines
    → entry_at inputs texts (get_or lines line None) ≡ get_or (map (entry_at inputs texts) (take count lines)) line Stop
entry_read inputs texts lines count line below room =
    let f = entry_at inputs texts in
    ap f (sym (get_or-take count lines line None below))
    ∙ sym (get_or-map f (take count lines) line None Stop (omega (arith, below, length-take-le count lines room)))

by_length : (long : Bool) (o : Option (List Val)) (given : List Val) → (if long then o else None) ≡ Some given
    → o ≡ Some given
by_length true o given is = is
by_length false o given is = cc

-- the values that a text says
pub vector_values : (inputs : ℕ) (text : List ℕ) (given : List Val) → vector_in inputs text ≡ Some given
    → values_of text ≡ Some given
vector_values inputs text given is = by_length (length text == inputs) (values_of text) given is

-- the text of a step that waits says it
pub step_says : (inputs : ℕ) (text : List ℕ) → length text ≡ inputs → is_some (values_of text) ≡ true
    → entry_in inputs text ≡ Some (Step (said (values_of text)))
step_says inputs text long good =
    let same : (length text == inputs) ≡ true = search (arith, long) in
    vector_says inputs text (said (values_of text))
    (ap (λ (b : Bool). if b then values_of text else None) same ∙ said_is (values_of text) good)

-- lines say the same where the texts of their steps are the same
same_entries : (inputs steps : ℕ) (before after : List ℕ) (lines : List (Option ℕ))
    → take (steps * inputs) after ≡ take (steps * inputs) before
    → ((k step : ℕ) → k < length lines → get_or lines k None ≡ Some step → step < steps)
    → map (entry_at inputs after) lines ≡ map (entry_at inputs before) lines
same_entries inputs steps before after [] same below = refl
same_entries inputs steps before after (None ∷ ls) same below =
    ap (λ (es : List Entry). Stop ∷ es)
    (same_entries inputs steps before after ls same (λ k step inside is. below (suc k) step (omega (arith, inside)) is))
same_entries inputs steps before after (Some step ∷ ls) same below =
    let within : step < steps = below 0 step (omega arith) refl in
    ap₂ (λ (e : Entry) es. e ∷ es)
    (ap (λ (t : List ℕ). Step (said (values_of t)))
    (part_same (step * inputs) inputs (steps * inputs) after before (steps_within step steps inputs within) same))
    (same_entries inputs steps before after ls same (λ k n inside is. below (suc k) n (omega (arith, inside)) is))

module _ (inputs steps count : ℕ) (before after text : List ℕ) (lines : List (Option ℕ))
    (is : IsWaiting inputs steps count before lines) (few : count < 512) where
  old_below : (k step : ℕ) → k < length (take count lines) → get_or (take count lines) k None ≡ Some step → step < steps
  old_below k step inside said_so =
      let low : k < count =
      omega (arith, inside, length-take-le count lines (omega (arith, is.few_lines, is.lines_room))) in
      is.below k step low (sym (get_or-take count lines k None low) ∙ said_so)

  inside_lines : count < length lines
  inside_lines = omega (arith, few, is.lines_room)

  new_below : (o : Option ℕ) (more : ℕ) → steps ≤ more → ((step : ℕ) → o ≡ Some step → step < more)
      → (k step : ℕ) → k < count + 1 → get_or (set lines count o) k None ≡ Some step → step < more
  new_below o more least fits k step low said_so = elim (cases_lt k count) [
    | inl less ↦
        let other = get_or-set_other lines count k o None (λ e. omega (arith, e, less)) in
        let old = is.below k step less (sym other ∙ said_so) in
        omega (arith, old, least)
    | inr later ↦
        let here : k ≡ count = omega (arith, low, later) in
        fits step
        (sym (get_or-set_same lines count o None inside_lines)
        ∙ ap (λ (n : ℕ). get_or (set lines count o) n None) (sym here) ∙ said_so)
  ]

  -- one more line that ends a run
  pub stop_added : map (entry_at inputs before) (take (count + 1) (set lines count None))
      ≡ map (entry_at inputs before) (take count lines) ++ Stop ∷ []
  stop_added =
      ap (map (entry_at inputs before)) (take_more_set lines count None inside_lines)
      ∙ map-append (entry_at inputs before) (take count lines) (None ∷ [])

  pub stop_waits : IsWaiting inputs steps (count + 1) before (set lines count None)
  stop_waits = record {
    texts_room = is.texts_room;
    lines_room = length-set lines count None ∙ is.lines_room;
    few_steps = is.few_steps;
    few_lines = omega (arith, few);
    below = new_below None steps (omega arith) (λ step none. cc);
    vectors = is.vectors;
  }

  module _ (room : steps < 256) (size : length after ≡ length before)
      (same : take (steps * inputs) after ≡ take (steps * inputs) before)
      (here : take inputs (drop (steps * inputs) after) ≡ text) where
    -- one more line that is a step
    pub step_added : (given : List Val) → vector_in inputs text ≡ Some given
        → map (entry_at inputs after) (take (count + 1) (set lines count (Some steps)))
        ≡ map (entry_at inputs before) (take count lines) ++ Step given ∷ []
    step_added given says =
        let f = entry_at inputs after in
        ap (map f) (take_more_set lines count (Some steps) inside_lines)
        ∙ map-append f (take count lines) (Some steps ∷ [])
        ∙ ap₂ (λ (es fs : List Entry). es ++ fs)
        (same_entries inputs steps before after (take count lines) same old_below)
        (ap (λ (t : List ℕ). Step (said (values_of t)) ∷ []) here
        ∙ ap (λ (o : Option (List Val)). Step (said o) ∷ []) (vector_values inputs text given says))

    vectors_stay : AreVectors inputs inputs steps after
    vectors_stay = record {
      within = λ k low. omega (arith, is.vectors.within k low, size);
      good = λ k low.
          ap (λ (t : List ℕ). is_some (values_of t))
          (part_same (k * inputs) inputs (steps * inputs) after before (steps_within k steps inputs low) same)
          ∙ is.vectors.good k low;
    }

    pub step_waits : is_some (values_of text) ≡ true
        → IsWaiting inputs (steps + 1) (count + 1) after (set lines count (Some steps))
    step_waits good =
        let end = steps_within steps 256 inputs room in
        record {
          texts_room = size ∙ is.texts_room;
          lines_room = length-set lines count (Some steps) ∙ is.lines_room;
          few_steps = omega (arith, room);
          few_lines = omega (arith, few);
          below = new_below (Some steps) (steps + 1) (omega arith)
              (λ step one. let e : steps ≡ step = cc in omega (arith, e));
          vectors = more_vectors inputs inputs steps after vectors_stay (omega (arith, end, size, is.texts_room))
              (ap (λ (t : List ℕ). is_some (values_of t)) here ∙ good);
        }
