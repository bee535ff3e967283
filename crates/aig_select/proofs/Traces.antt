-- Each row and each trace of a circuit is, of what stays, one of its selection.
use Rattle.std.proofs.Common.{◌≡◌, ◌∷◌, ◌∙◌, ℕ, List, [], map, Bool, sym, ap, subst}
use Rattle.std.specs.List.{AllZip}
use Rattle.aig_circuit.specs.declared.circuit.Latch.{Latch}
use Rattle.aig_circuit.specs.declared.circuit.Gate.{Gate}
use Rattle.aig_circuit.specs.declared.circuit.Reset.{Reset}
use Rattle.aig_circuit.specs.declared.circuit.Circuit.{Circuit}
use Rattle.aig_circuit.specs.declared.value.Val.{Val}
use Rattle.aig_meaning.specs.Meaning.{IsRow, IsStepAssignment, Row, latch_variables, literal_value, next_literals}
use Rattle.aig_meaning.specs.Trace.{Follow, IsFirstState, IsTrace, MayStartAt}
use Rattle.aig_select.specs.declared.choice.Choice.{Choice}
use Rattle.aig_select.specs.Staying.{staying}
use Rattle.aig_select.specs.Selection.{input_marks, latch_marks, selected}
use Rattle.aig_select.specs.Shown.{inputs_left, row_left, state_left}
use Rattle.aig_select.specs.Laws.{SelectionHasTheTraces}
use Rattle.aig_select.proofs.Lists.{left_contained, map_filter, staying_map, zip_staying}

module _ (choice : Choice) (keeps : ℕ → Bool) (c : Circuit) where
  abbrev d : Circuit
  d = selected choice keeps c

  -- of what a latch has, one after the other
  of_latches : {X : Type 0} (f : Latch → X) → map f d.latches ≡ staying (latch_marks keeps c) (map f c.latches)
  of_latches f = map_filter f (λ (l : Latch). keeps l.var) c.latches

  pub step_left : (state given : List Val) (a : ℕ → Val) → IsStepAssignment c state given a
      → IsStepAssignment d (state_left keeps c state) (inputs_left keeps c given) a
  step_left state given a is = record {
    constant = is.constant;
    inputs = map_filter a keeps c.inputs ∙ ap (staying (input_marks keeps c)) is.inputs;
    latches = ap (map a) (of_latches (λ (l : Latch). l.var))
        ∙ staying_map a (latch_marks keeps c) (latch_variables c) ∙ ap (staying (latch_marks keeps c)) is.latches;
    gates = λ g there. is.gates g (left_contained (λ (h : Gate). keeps h.var) c.gates g there);
  }

  pub row_stays : (row : Row) → IsRow c row → IsRow d (row_left choice keeps c row)
  row_stays row (a, is) = (
    a,
    record {
      assigned = step_left row.state row.inputs a is.assigned;
      outputs_shown = ap (staying choice.outputs) is.outputs_shown
          ∙ sym (staying_map (literal_value a) choice.outputs c.outputs);
      next_shown = ap (staying (latch_marks keeps c)) is.next_shown
          ∙ sym (staying_map (literal_value a) (latch_marks keeps c) (next_literals c))
          ∙ ap (map (literal_value a)) (sym (of_latches (λ (l : Latch). l.next)));
      bad_shown = ap (staying choice.bad) is.bad_shown ∙ sym (staying_map (literal_value a) choice.bad c.bad);
      constraints_shown = is.constraints_shown;
    },
  )

  follow_left : (state : List Val) (vectors : List (List Val)) (rows : List Row) → Follow c state vectors rows
      → Follow d (state_left keeps c state) (map (inputs_left keeps c) vectors) (map (row_left choice keeps c) rows)
  follow_left state [] [] follow = tt
  follow_left state [] (row ∷ rows) follow = absurd follow
  follow_left state (vector ∷ vectors) [] follow = absurd follow
  follow_left state (vector ∷ vectors) (row ∷ rows) follow = (
    ap (state_left keeps c) follow.0,
    ap (inputs_left keeps c) follow.1,
    row_stays row follow.2,
    follow_left row.next vectors rows follow.3,
  )

  first_left : (first : List Val) → IsFirstState c first → IsFirstState d (state_left keeps c first)
  first_left first is =
      subst (λ (resets : List Reset). AllZip MayStartAt resets (state_left keeps c first))
      (sym (of_latches (λ (l : Latch). l.reset)))
      (zip_staying MayStartAt (latch_marks keeps c) (map (λ (l : Latch). l.reset) c.latches) first is)

  pub trace_left : (first : List Val) (vectors : List (List Val)) (rows : List Row) → IsTrace c first vectors rows
      → IsTrace d (state_left keeps c first) (map (inputs_left keeps c) vectors) (map (row_left choice keeps c) rows)
  trace_left first vectors rows is = (first_left first is.0, follow_left first vectors rows is.1)

pub selection_has_the_traces : SelectionHasTheTraces
selection_has_the_traces choice keeps c d first vectors rows is trace =
    subst (λ (e : Circuit). IsTrace e (state_left keeps c first) (map (inputs_left keeps c) vectors)
    (map (row_left choice keeps c) rows)) (sym is.same)
    (trace_left choice keeps c first vectors rows trace)
