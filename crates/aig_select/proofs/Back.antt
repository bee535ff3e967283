-- Each trace of a selection is, of what stays, one of its source: what does not stay may have any values.
use Rattle.std.proofs.Common.{◌≡◌, ◌∷◌, ◌∙◌, ℕ, List, [], length, map, Bool, refl, sym, ap, ap₂, subst}
use Rattle.std.specs.List.{AllByRecursion, AllZip}
use Rattle.std.proofs.lemmas.List.{length-map}
use Rattle.aig_circuit.specs.declared.circuit.Latch.{Latch}
use Rattle.aig_circuit.specs.declared.circuit.Reset.{Reset}
use Rattle.aig_circuit.specs.declared.circuit.Circuit.{Circuit}
use Rattle.aig_circuit.specs.declared.value.Val.{Val}
use Rattle.aig_circuit.specs.declared.value.Val.TheVariants.{X}
use Rattle.aig_circuit.specs.Wellformed.{IsWellFormed}
use Rattle.aig_meaning.specs.Meaning.{Row}
use Rattle.aig_meaning.specs.Trace.{Follow, IsFirstState, IsTrace, MayStartAt, reset_state, reset_value}
use Rattle.aig_meaning.proofs.Traces.{first_length, inputs_length, one_trace, reset_state_is_first}
use Rattle.aig_select.specs.declared.choice.Choice.{Choice}
use Rattle.aig_select.specs.Staying.{staying}
use Rattle.aig_select.specs.Chosen.{chosen}
use Rattle.aig_select.specs.Cone.{IsCone, shown_variables}
use Rattle.aig_select.specs.Selection.{input_marks, latch_marks, selected}
use Rattle.aig_select.specs.Shown.{inputs_left, row_left, state_left}
use Rattle.aig_select.specs.Laws.{SelectionHasNoOthers}
use Rattle.aig_select.proofs.Lists.{as_long, filter_is, length_spread, map_filter, spread, staying_spread, zip_spread}
use Rattle.aig_select.proofs.Selected.{selected_well_formed}
use Rattle.aig_select.proofs.Traces.{trace_left}

-- each vector of a trace has a value for each input
vectors_length : (c : Circuit) (state : List Val) (vectors : List (List Val)) (rows : List Row)
    → Follow c state vectors rows → AllByRecursion (λ (vector : List Val). length vector ≡ length c.inputs) vectors
vectors_length c state [] rows follow = tt
vectors_length c state (vector ∷ vectors) [] follow = absurd follow
vectors_length c state (vector ∷ vectors) (row ∷ rows) follow = (
  ap (length {A = Val}) (sym follow.1) ∙ inputs_length c row follow.2,
  vectors_length c row.next vectors rows follow.3,
)

-- Values for all inputs and all latches.
module _ (choice : Choice) (keeps : ℕ → Bool) (c : Circuit) where
  abbrev d : Circuit
  d = selected choice keeps c

  abbrev unknown : List Val
  unknown = map (λ (v : ℕ). X) c.inputs

  abbrev all_inputs : List Val → List Val
  all_inputs given = spread (input_marks keeps c) unknown given

  abbrev whole_state : List Val → List Val
  whole_state state = spread (latch_marks keeps c) (reset_state c) state

  same_resets : map (λ (l : Latch). l.reset) d.latches
      ≡ staying (latch_marks keeps c) (map (λ (l : Latch). l.reset) c.latches)
  same_resets = map_filter (λ (l : Latch). l.reset) (λ (l : Latch). keeps l.var) c.latches

  whole_is_first : (first : List Val) → IsFirstState d first → IsFirstState c (whole_state first)
  whole_is_first first is =
      zip_spread MayStartAt (latch_marks keeps c) (map (λ (l : Latch). l.reset) c.latches) (reset_state c) first
      (reset_state_is_first c) (subst (λ (rs : List Reset). AllZip MayStartAt rs first) same_resets is)

  state_again : (first : List Val) → IsFirstState d first → state_left keeps c (whole_state first) ≡ first
  state_again first is =
      staying_spread (latch_marks keeps c) (reset_state c) first
      (first_length d first is ∙ ap (length {A = Latch}) (filter_is (λ (l : Latch). keeps l.var) c.latches)
      ∙ as_long (latch_marks keeps c) c.latches (reset_state c)
      (sym (length-map c.latches (λ (l : Latch). reset_value l.reset))))

  inputs_again : (given : List Val) → length given ≡ length d.inputs → inputs_left keeps c (all_inputs given) ≡ given
  inputs_again given same =
      staying_spread (input_marks keeps c) unknown given
      (same ∙ ap (length {A = ℕ}) (filter_is keeps c.inputs)
      ∙ as_long (input_marks keeps c) c.inputs unknown (sym (length-map c.inputs (λ (v : ℕ). X))))

  all_again : (vectors : List (List Val)) → AllByRecursion (λ (given : List Val). length given ≡ length d.inputs) vectors
      → map (inputs_left keeps c) (map all_inputs vectors) ≡ vectors
  all_again [] all = refl
  all_again (given ∷ vectors) all =
      ap₂ (λ (v : List Val) (vs : List (List Val)). v ∷ vs) (inputs_again given all.0) (all_again vectors all.1)

  all_long : (vectors : List (List Val))
      → AllByRecursion (λ (given : List Val). length given ≡ length c.inputs) (map all_inputs vectors)
  all_long [] = tt
  all_long (given ∷ vectors) = (
    length_spread (input_marks keeps c) unknown given ∙ length-map c.inputs (λ (v : ℕ). X),
    all_long vectors,
  )

  pub trace_back : IsWellFormed c → IsCone c (shown_variables (chosen choice c)) keeps → (first : List Val) (vectors : List (List Val))
      (rows : List Row) → IsTrace d first vectors rows
      → (whole : List Val) × (given : List (List Val)) × (shown : List Row) × IsTrace c whole given shown
      × (first ≡ state_left keeps c whole) × (vectors ≡ map (inputs_left keeps c) given)
      × (rows ≡ map (row_left choice keeps c) shown)
  trace_back good cone first vectors rows trace =
      let whole : List Val = whole_state first in
      let given : List (List Val) = map all_inputs vectors in
      let there = one_trace c whole given good (whole_is_first first trace.0) (all_long vectors) in
      let lengths = vectors_length d first vectors rows trace.1 in
      let state_is : state_left keeps c whole ≡ first = state_again first trace.0 in
      let vectors_are : map (inputs_left keeps c) given ≡ vectors = all_again vectors lengths in
      let left : IsTrace d first vectors (map (row_left choice keeps c) there.0) =
      subst (λ (state : List Val). IsTrace d state vectors (map (row_left choice keeps c) there.0)) state_is
      (subst (λ (vs : List (List Val)). IsTrace d (state_left keeps c whole) vs (map (row_left choice keeps c) there.0))
      vectors_are (trace_left choice keeps c whole given there.0 there.1)) in
      let one = one_trace d first vectors (selected_well_formed choice keeps c good cone) trace.0 lengths in (
        whole,
        given,
        there.0,
        there.1,
        sym state_is,
        sym vectors_are,
        one.2 rows trace ∙ sym (one.2 (map (row_left choice keeps c) there.0) left),
      )

pub selection_has_no_others : SelectionHasNoOthers
selection_has_no_others choice keeps c d first vectors rows good is trace =
    trace_back choice keeps c good is.cone first vectors rows
    (subst (λ (e : Circuit). IsTrace e first vectors rows) is.same trace)
