-- Steps of a run that are taken one by one.
use Rattle.std.proofs.Common.{◌≡◌, ◌≢◌, ◌+◌, ◌<◌, ◌≤◌, ◌&&◌, ◌∙◌, ℕ, suc, List, [], ◌∷◌, Bool, true, false, None}
use Rattle.std.proofs.Common.{Some, add-one, ap, arith, drop, eq-eqb, get_or, if◌then◌else◌, length, refl, subst}
use Rattle.std.proofs.Common.{sym}
use Rattle.std.proofs.lemmas.List.{drop-drop, drop_all, drop_more, length-map}
use Rattle.aig_circuit.specs.declared.circuit.Circuit.{Circuit}
use Rattle.aig_circuit.specs.declared.circuit.Latch.{Latch}
use Rattle.aig_circuit.specs.declared.value.Val.{Val}
use Rattle.aig_meaning.specs.Meaning.{IsRow, IsStepAssignment, MeansTheSame, Row}
use Rattle.aig_meaning.specs.Trace.{Follow, state_after}
use Rattle.aig_meaning.proofs.Traces.{bad_length, first_length, inputs_length, one_row, state_length}
use Rattle.aig_step.specs.Parts.Lines.{row_read, vector_in}
use Rattle.aig_step.specs.Parts.Stepping.{Stepping, in_next_state, row_of}
use Rattle.aig_step.specs.Parts.Tables.{read_from}
use Rattle.aig_step.specs.Stimulus.{values_of}
use Rattle.aig_step.specs.TraceText.{character_of, values_text}
use Rattle.aig_step.proofs.LineValues.{row_is_read, says_values}
use Rattle.aig_witness.specs.Parts.Witnessing.{are_ones}
use Rattle.aig_lasso.specs.Parts.Searching.{HasTrace, StandsBefore, TookRow, all_hold, notes_after, notes_with}
use Rattle.aig_lasso.specs.Parts.Searching.{are_same_values, step_from}
use Rattle.aig_lasso.specs.Runs.{StartedRun}

-- the characters of as many values as there have to be say them
text_says : (n : ℕ) (vs : List Val) (text : List ℕ) → text ≡ values_text vs → length text ≡ n
    → vector_in n text ≡ Some vs
text_says n vs text is long =
    ap (λ (b : Bool). if b then values_of text else None) (eq-eqb (length text) n long)
    ∙ ap values_of is ∙ says_values vs

-- the first state is entered
module _ (c : Circuit) (run : StartedRun) (rows : List Row) (before after : Stepping) (text : List ℕ)
    (of : HasTrace c before.circuit run rows) (is : text ≡ values_text run.first)
    (same : after.circuit ≡ before.circuit) where
  first_says : vector_in (length before.circuit.latches) text ≡ Some run.first
  first_says =
      let resets = ap length of.means.resets in
      let long = length-map c.latches (λ (l : Latch). l.reset) in
      let long_too = length-map before.circuit.latches (λ (l : Latch). l.reset) in
      text_says (length before.circuit.latches) run.first text is
      (omega (
        arith,
        ap length is,
        length-map run.first character_of,
        first_length c run.first of.trace.0,
        resets,
        long,
        long_too,
      ))

  entered_case : (result : Bool)
      → (result ≡ true → vector_in (length before.circuit.latches) text ≡ Some after.state)
      → (result ≡ false → vector_in (length before.circuit.latches) text ≡ None)
      → (result ≡ true) × StandsBefore c after run rows 0
  entered_case true good bad =
      let said = good refl in
      let says = first_says in
      let there : run.first ≡ after.state = cc in (
        refl,
        record {
          formed = of.formed;
          means = subst (λ (d : Circuit). MeansTheSame c d) (sym same) of.means;
          follow = subst (λ (s : List Val). Follow c s run.steps rows) there of.trace.1;
          leads = ap (λ (s : List Val). state_after s rows) (sym there);
        },
      )
  entered_case false good bad = let none = bad refl in let says = first_says in cc

pub entered : (c : Circuit) (run : StartedRun) (rows : List Row) (before after : Stepping) (text : List ℕ) (result : Bool)
    → HasTrace c before.circuit run rows → text ≡ values_text run.first
    → (result ≡ true → vector_in (length before.circuit.latches) text ≡ Some after.state)
    → (result ≡ false → vector_in (length before.circuit.latches) text ≡ None) → after.circuit ≡ before.circuit
    → (result ≡ true) × StandsBefore c after run rows 0
entered c run rows before after text result of is good bad same =
    entered_case c run rows before after text of is same result good bad

-- the next row, and those behind it
record IsNext (c : Circuit) (state given : List Val) (others : List (List Val)) (rows : List Row) : Type 0 where
  pub row : Row
  pub behind : List Row
  pub parted : rows ≡ row ∷ behind
  pub from : row.state ≡ state
  pub inputs : row.inputs ≡ given
  pub is_row : IsRow c row
  pub follow : Follow c row.next others behind

next_case : (c : Circuit) (state given : List Val) (others : List (List Val)) (rows : List Row)
    → Follow c state (given ∷ others) rows → IsNext c state given others rows
next_case c state given others [] follow = absurd follow
next_case c state given others (r ∷ rs) follow = record {
  row = r;
  behind = rs;
  parted = refl;
  from = follow.0;
  inputs = follow.1;
  is_row = follow.2;
  follow = follow.3;
}

module _ (c : Circuit) (s : Stepping) (run : StartedRun) (rows : List Row) (step : ℕ)
    (stands : StandsBefore c s run rows step) where
  -- no row is left behind the last step
  pub none_left : length run.steps ≤ step → drop step rows ≡ []
  none_left high =
      no_rows s.state (drop step rows)
      (subst (λ (vs : List (List Val)). Follow c s.state vs (drop step rows)) (drop_all step run.steps high)
      stands.follow) where
        no_rows : (state : List Val) (rs : List Row) → Follow c state [] rs → rs ≡ []
        no_rows state [] follow = refl
        no_rows state (r ∷ rs) follow = absurd follow

  pub at_end : length run.steps ≤ step → s.state ≡ state_after run.first rows
  at_end high = ap (λ (rs : List Row). state_after s.state rs) (sym (none_left high)) ∙ stands.leads

  module _ (low : step < length run.steps) where
    abbrev given : List Val
    given = get_or run.steps step []

    follow : Follow c s.state (given ∷ drop (step + 1) run.steps) (drop step rows)
    follow =
        subst (λ (vs : List (List Val)). Follow c s.state vs (drop step rows)) (drop_more run.steps step [] low)
        stands.follow

    next : IsNext c s.state given (drop (step + 1) run.steps) (drop step rows)
    next = next_case c s.state given (drop (step + 1) run.steps) (drop step rows) follow

    behind_next : next.behind ≡ drop (step + 1) rows
    behind_next = ap (λ (rs : List Row). drop 1 rs) (sym next.parted) ∙ drop-drop 1 step rows

    parted : drop step rows ≡ next.row ∷ drop (step + 1) rows
    parted = next.parted ∙ ap (λ (rs : List Row). next.row ∷ rs) behind_next

    -- what runs the circuit has as many goals
    pub as_many_goals : length s.circuit.bad ≡ length c.bad
    as_many_goals =
        sym (bad_length s.circuit next.row ((stands.means.rows next.row).0 next.is_row))
        ∙ bad_length c next.row next.is_row

    -- the state is that before the next row
    pub step_here : (state : List Val) → are_same_values s.state state ≡ true
        → step_from state step (drop step rows) ≡ Some step
    step_here state same =
        ap (λ (rs : List Row). step_from state step rs) parted
        ∙ ap (λ (b : Bool). if b then Some step else step_from state (suc step) (drop (step + 1) rows))
        (ap (λ (vs : List Val). are_same_values vs state) next.from ∙ same)

    pub step_later : (state : List Val) → are_same_values s.state state ≡ false
        → step_from state step (drop step rows) ≡ step_from state (step + 1) (drop (step + 1) rows)
    step_later state other =
        ap (λ (rs : List Row). step_from state step rs) parted
        ∙ ap (λ (b : Bool). if b then Some step else step_from state (suc step) (drop (step + 1) rows))
        (ap (λ (vs : List Val). are_same_values vs state) next.from ∙ other)
        ∙ ap (λ (n : ℕ). step_from state n (drop (step + 1) rows)) (sym (add-one step))

    module _ (text : List ℕ) (is : text ≡ values_text given) where
      fits : length text ≡ length s.circuit.inputs
      fits =
          omega (
            arith,
            ap length is,
            length-map given character_of,
            ap length next.inputs,
            inputs_length c next.row next.is_row,
            stands.means.inputs,
          )

      says : vector_in (length s.circuit.inputs) text ≡ Some given
      says = text_says (length s.circuit.inputs) given text is fits

      pub says_some : vector_in (length s.circuit.inputs) text ≢ None
      says_some none = let some = says in cc

      module _ (said values : List Val) (told : vector_in (length s.circuit.inputs) text ≡ Some said)
          (assigned : IsStepAssignment s.circuit s.state said (read_from values)) where
        abbrev read : Row
        read = row_read s.circuit s.state said (read_from values)

        same_given : said ≡ given
        same_given = let some = says in cc

        same_row : read ≡ next.row
        same_row =
            let row = next.row in
            let one = one_row c row.state row.inputs stands.formed (state_length c row next.is_row)
            (inputs_length c row next.is_row) in
            one.4 read (sym next.from) (same_given ∙ sym next.inputs)
            ((stands.means.rows read).1 (row_is_read s.circuit s.state said (read_from values) assigned))
            ∙ sym (one.4 row refl refl next.is_row)

        abbrev after : Stepping
        after = in_next_state (record s { values = values })

        leads : after.state ≡ next.row.next
        leads = ap (λ (r : Row). r.next) same_row

        pub took : TookRow c after run rows step
        took = record {
          row = next.row;
          next = parted;
          bad = ap (λ (r : Row). r.bad) same_row;
          constraints = ap (λ (r : Row). r.constraints) same_row;
          stands = record {
            formed = stands.formed;
            means = stands.means;
            follow = subst (λ (t : List Val). Follow c t (drop (step + 1) run.steps) (drop (step + 1) rows)) (sym leads)
                (subst (λ (rs : List Row). Follow c next.row.next (drop (step + 1) run.steps) rs) behind_next
                next.follow);
            leads = ap (λ (t : List Val). state_after t (drop (step + 1) rows)) leads
                ∙ sym (ap (λ (rs : List Row). state_after s.state rs) parted) ∙ stands.leads;
          };
        }

-- what was taken, and is looked at
module _ (c : Circuit) (s : Stepping) (run : StartedRun) (rows : List Row) (step : ℕ) (took : TookRow c s run rows step) where
  pub hold_on : are_ones (row_of s).constraints ≡ true → all_hold (drop step rows) ≡ all_hold (drop (step + 1) rows)
  hold_on ones =
      ap all_hold took.next
      ∙ ap (λ (vs : List Val). are_ones vs && all_hold (drop (step + 1) rows)) (sym took.constraints)
      ∙ ap (λ (b : Bool). b && all_hold (drop (step + 1) rows)) ones

  pub broke : are_ones (row_of s).constraints ≡ false → all_hold (drop step rows) ≡ false
  broke some =
      ap all_hold took.next
      ∙ ap (λ (vs : List Val). are_ones vs && all_hold (drop (step + 1) rows)) (sym took.constraints)
      ∙ ap (λ (b : Bool). b && all_hold (drop (step + 1) rows)) some

  pub noted_on : (notes more : List Bool) → more ≡ notes_with notes (row_of s).bad
      → notes_after more (drop (step + 1) rows) ≡ notes_after notes (drop step rows)
  noted_on notes more is =
      ap (λ (ns : List Bool). notes_after ns (drop (step + 1) rows))
      (is ∙ ap (λ (vs : List Val). notes_with notes vs) took.bad)
      ∙ sym (ap (λ (rs : List Row). notes_after notes rs) took.next)
