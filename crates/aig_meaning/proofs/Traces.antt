-- Rows and traces: there is one of each, circuits that mean the same have the same, and known values stay.
use Rattle.std.proofs.Common.{◌≡◌, ◌∙◌, ◌∷◌, ◌++◌, rules, ℕ, List, length, map, sym, ap, refl, subst, [], ap₂}
use Rattle.std.specs.List.{AllZip, AllByRecursion}
use Rattle.std.proofs.lemmas.List.{length-map}
use Rattle.std.proofs.lemmas.Slice.Zip.{AllZip-long}
use Rattle.aig_circuit.specs.declared.circuit.Circuit.{Circuit}
use Rattle.aig_circuit.specs.declared.value.Val.{Val}
use Rattle.aig_circuit.specs.Wellformed.{IsWellFormed}
use Rattle.aig_circuit.specs.declared.circuit.Latch.{Latch}
use Rattle.aig_circuit.specs.declared.circuit.Reset.{Reset}
use Rattle.aig_circuit.specs.declared.circuit.Reset.TheVariants as resets
use Rattle.aig_meaning.specs.Meaning.{IsRow, IsStepAssignment, Row, latch_variables, literal_value, next_literals}
use Rattle.aig_meaning.specs.Meaning.{MeansTheSame}
use Rattle.aig_meaning.specs.Completion.{RowStays, Stays}
use Rattle.aig_meaning.specs.Laws.{OneRow, CompletionsKeepKnownValues, KnownValuesStay, OneTrace, ResetStateIsFirst}
use Rattle.aig_meaning.specs.Laws.{SameMeaningSameTraces, TraceGoesOn}
use Rattle.aig_meaning.specs.Trace.{Follow, IsFirstState, MayStartAt, reset_value, state_after}
use Rattle.aig_meaning.proofs.Related.{known_next, known_outputs, known_bad, known_constraints, of_literals}
use Rattle.aig_meaning.proofs.Related.{literals_agree, staying_is_kept, all_zip_weaker, completed_stays}
use Rattle.aig_meaning.proofs.Existing.{one_step_assignment}

abbrev pub row_of : List Val → List Val → List Val → List Val → List Val → List Val → Row
row_of state inputs outputs next bad constraints = record {
  state = state;
  inputs = inputs;
  outputs = outputs;
  next = next;
  bad = bad;
  constraints = constraints;
}

-- rows that are the same list by list
pub same_row : (r s : Row) → r.state ≡ s.state → r.inputs ≡ s.inputs → r.outputs ≡ s.outputs → r.next ≡ s.next
    → r.bad ≡ s.bad → r.constraints ≡ s.constraints → r ≡ s
same_row r s of_state of_inputs of_outputs of_next of_bad of_constraints = search rules

-- the row that an assignment shows
abbrev pub row_shown : Circuit → (ℕ → Val) → Row
row_shown c a =
    row_of (map a (latch_variables c)) (map a c.inputs) (map (literal_value a) c.outputs)
    (map (literal_value a) (next_literals c)) (map (literal_value a) c.bad) (map (literal_value a) c.constraints)

shown_is_row : (c : Circuit) (state given : List Val) (a : ℕ → Val) → IsStepAssignment c state given a
    → IsRow c (row_shown c a)
shown_is_row c state given a is = search rules

-- the lists of a row are as long as the circuit's
module _ (c : Circuit) (row : Row) (is : IsRow c row) where
  pub state_length : length row.state ≡ length c.latches
  state_length = search (rules, length-map)

  pub inputs_length : length row.inputs ≡ length c.inputs
  inputs_length = ap length (sym is.1.assigned.inputs) ∙ length-map c.inputs is.0

  pub next_length : length row.next ≡ length c.latches
  next_length = search (rules, length-map)

  pub bad_length : length row.bad ≡ length c.bad
  bad_length = ap length is.1.bad_shown ∙ length-map c.bad (literal_value is.0)

  pub constraints_length : length row.constraints ≡ length c.constraints
  constraints_length = ap length is.1.constraints_shown ∙ length-map c.constraints (literal_value is.0)

module _ (c : Circuit) (formed : IsWellFormed c) where
  -- two rows of the same state and inputs are the same
  rows_agree : (r s : Row) → r.state ≡ s.state → r.inputs ≡ s.inputs → IsRow c r → IsRow c s → r ≡ s
  rows_agree r s of_state of_inputs is_r is_s =
      search (rules, literals_agree, same_row, known_outputs, known_next, known_bad, known_constraints)

  -- where more is known of the state and the inputs, all that was known of the row stays
  pub row_stays : (r s : Row) → AllZip Stays r.state s.state → AllZip Stays r.inputs s.inputs → IsRow c r → IsRow c s
      → RowStays r s
  row_stays r s of_state of_inputs is_r is_s =
      search (rules, of_literals, staying_is_kept, known_outputs, known_next, known_bad, known_constraints)

pub one_row : OneRow
one_row c state given formed as_long as_long_too =
    let a = one_step_assignment c state given formed as_long as_long_too in
    let row = row_shown c a.0 in
    let is : IsRow c row = shown_is_row c state given a.0 a.1 in (
      row,
      a.1.latches,
      a.1.inputs,
      is,
      λ other of_state of_inputs is_other.
          rows_agree c formed other row (of_state ∙ sym a.1.latches) (of_inputs ∙ sym a.1.inputs) is_other is,
    )

-- Circuits that mean the same: each circuit does with itself, both ways and over a third; and rows one way suffice.
pub means_itself : (c : Circuit) → MeansTheSame c c
means_itself c = record { inputs = refl; resets = refl; rows = λ row. (λ is. is, λ is. is) }

pub same_back : (c d : Circuit) → MeansTheSame c d → MeansTheSame d c
same_back c d same = record {
  inputs = sym same.inputs;
  resets = sym same.resets;
  rows = λ row. ((same.rows row).1, (same.rows row).0);
}

pub same_through : (c d e : Circuit) → MeansTheSame c d → MeansTheSame d e → MeansTheSame c e
same_through c d e same same_too = record {
  inputs = same_too.inputs ∙ same.inputs;
  resets = same_too.resets ∙ same.resets;
  rows = λ row. (
    λ is. (same_too.rows row).0 ((same.rows row).0 is),
    λ is. (same.rows row).1 ((same_too.rows row).1 is),
  );
}

-- latches that start alike are as many
latches_length : (c d : Circuit)
    → map (λ (l : Latch). l.reset) d.latches ≡ map (λ (l : Latch). l.reset) c.latches
    → length d.latches ≡ length c.latches
latches_length c d resets = search (rules, length-map)

-- Where each row of d is a row of c, each row of c is one of d too: d has a row of the same state and inputs, that one
-- is a row of c, and c has no second one.
pub same_by_rows : (c d : Circuit) → IsWellFormed c → IsWellFormed d → length d.inputs ≡ length c.inputs
    → map (λ (l : Latch). l.reset) d.latches ≡ map (λ (l : Latch). l.reset) c.latches
    → ((row : Row) → IsRow d row → IsRow c row) → MeansTheSame c d
same_by_rows c d formed formed_too inputs resets carried = record {
  inputs = inputs;
  resets = resets;
  rows = λ row. (
    λ is.
        let there = one_row d row.state row.inputs formed_too
        (state_length c row is ∙ sym (latches_length c d resets)) (inputs_length c row is ∙ sym inputs) in
        let same : there.0 ≡ row =
        rows_agree c formed there.0 row there.1 there.2 (carried there.0 there.3) is in
        subst (λ (r : Row). IsRow d r) same there.3,
    carried row,
  );
}

-- Traces: there is one, they go on row by row, circuits that mean the same have the same, and known values stay.

-- a first state has a value for each latch
pub first_length : (c : Circuit) (first : List Val) → IsFirstState c first → length first ≡ length c.latches
first_length c first starts =
    AllZip-long MayStartAt (map (λ (l : Latch). l.reset) c.latches) first starts
    ∙ length-map c.latches (λ (l : Latch). l.reset)

module _ (c : Circuit) (formed : IsWellFormed c) where
  -- rows that follow the same vectors from the same state are the same
  pub rows_follow_once : (state : List Val) (vectors : List (List Val)) (rows others : List Row)
      → Follow c state vectors rows → Follow c state vectors others → rows ≡ others
  rows_follow_once state [] [] [] follow follow_too = refl
  rows_follow_once state [] [] (s ∷ ss) follow follow_too = absurd follow_too
  rows_follow_once state [] (r ∷ rs) others follow follow_too = absurd follow
  rows_follow_once state (v ∷ vs) [] others follow follow_too = absurd follow
  rows_follow_once state (v ∷ vs) (r ∷ rs) [] follow follow_too = absurd follow_too
  rows_follow_once state (v ∷ vs) (r ∷ rs) (s ∷ ss) follow follow_too =
      let same : r ≡ s =
      rows_agree c formed r s (follow.0 ∙ sym follow_too.0) (follow.1 ∙ sym follow_too.1) follow.2 follow_too.2 in
      ap₂ (λ x xs. x ∷ xs) same
      (rows_follow_once r.next vs rs ss follow.3
      (subst (λ (z : Row). Follow c z.next vs ss) (sym same) follow_too.3))

  -- some rows follow any vectors of inputs from any state
  rows_to_follow : (state : List Val) (vectors : List (List Val)) → length state ≡ length c.latches
      → AllByRecursion (λ (vector : List Val). length vector ≡ length c.inputs) vectors
      → (rows : List Row) × Follow c state vectors rows
  rows_to_follow state [] as_long each_as_long = ([], tt)
  rows_to_follow state (v ∷ vs) as_long each_as_long =
      let row = one_row c state v formed as_long each_as_long.0 in
      let later = rows_to_follow (row.0).next vs (next_length c row.0 row.3) each_as_long.1 in
      (row.0 ∷ later.0, (row.1, row.2, row.3, later.1))

  known_rows_stay : (state state_too : List Val) (vectors known : List (List Val)) (rows others : List Row)
      → AllZip Stays state state_too → AllZip (AllZip Stays) vectors known → Follow c state vectors rows
      → Follow c state_too known others → AllZip RowStays rows others
  known_rows_stay state state_too [] [] [] [] of_state of_vectors follow follow_too = tt
  known_rows_stay state state_too [] [] [] (s ∷ ss) of_state of_vectors follow follow_too = absurd follow_too
  known_rows_stay state state_too [] [] (r ∷ rs) others of_state of_vectors follow follow_too = absurd follow
  known_rows_stay state state_too [] (w ∷ ws) rows others of_state of_vectors follow follow_too = absurd of_vectors
  known_rows_stay state state_too (v ∷ vs) [] rows others of_state of_vectors follow follow_too = absurd of_vectors
  known_rows_stay state state_too (v ∷ vs) (w ∷ ws) [] others of_state of_vectors follow follow_too = absurd follow
  known_rows_stay state state_too (v ∷ vs) (w ∷ ws) (r ∷ rs) [] of_state of_vectors follow follow_too =
      absurd follow_too
  known_rows_stay state state_too (v ∷ vs) (w ∷ ws) (r ∷ rs) (s ∷ ss) of_state of_vectors follow follow_too =
      let first = row_stays c formed r s (rw (follow.0, follow_too.0) of_state)
      (rw (follow.1, follow_too.1) of_vectors.0) follow.2 follow_too.2 in
      (first, known_rows_stay r.next s.next vs ws rs ss first.next of_vectors.1 follow.3 follow_too.3)

pub one_trace : OneTrace
one_trace c first vectors formed starts each_as_long =
    let rows = rows_to_follow c formed first vectors (first_length c first starts) each_as_long in (
      rows.0,
      (starts, rows.1),
      λ others is.
          rows_follow_once c formed first vectors others rows.0 is.1 rows.1,
    )

pub known_values_stay : KnownValuesStay
known_values_stay c first known_first vectors known rows others formed of_first of_vectors is is_too =
    known_rows_stay c formed first known_first vectors known rows others of_first of_vectors is.1 is_too.1

pub completions_keep_known_values : CompletionsKeepKnownValues
completions_keep_known_values c first completed_first vectors completed rows others formed completion is is_too =
    search (rules, known_values_stay, all_zip_weaker, completed_stays)

may_start_at_reset : (r : Reset) → MayStartAt r (reset_value r)
may_start_at_reset resets.Zero = refl
may_start_at_reset resets.One = refl
may_start_at_reset resets.Uninit = tt

pub reset_state_is_first : ResetStateIsFirst
reset_state_is_first c = all_start c.latches where
  all_start : (ls : List Latch)
      → AllZip MayStartAt (map (λ (l : Latch). l.reset) ls) (map (λ (l : Latch). reset_value l.reset) ls)
  all_start [] = tt
  all_start (l ∷ ls) = (may_start_at_reset l.reset, all_start ls)

-- rows that follow are followed by any row from the state in which they ended
follow_on : (c : Circuit) (state : List Val) (vectors : List (List Val)) (rows : List Row) (row : Row)
    → Follow c state vectors rows → row.state ≡ state_after state rows → IsRow c row
    → Follow c state (vectors ++ (row.inputs ∷ [])) (rows ++ (row ∷ []))
follow_on c state [] [] row follow from is = (from, refl, is, tt)
follow_on c state [] (r ∷ rs) row follow from is = absurd follow
follow_on c state (v ∷ vs) [] row follow from is = absurd follow
follow_on c state (v ∷ vs) (r ∷ rs) row follow from is =
    (follow.0, follow.1, follow.2, follow_on c r.next vs rs row follow.3 from is)

pub trace_goes_on : TraceGoesOn
trace_goes_on c first vectors rows row is from is_row = (is.0, follow_on c first vectors rows row is.1 from is_row)

-- rows of one circuit that are rows of the other follow there too
rows_carried : (c d : Circuit) → ((row : Row) → IsRow c row → IsRow d row) → (state : List Val)
    (vectors : List (List Val)) (rows : List Row) → Follow c state vectors rows → Follow d state vectors rows
rows_carried c d carried state [] [] follow = tt
rows_carried c d carried state [] (r ∷ rs) follow = absurd follow
rows_carried c d carried state (v ∷ vs) [] follow = absurd follow
rows_carried c d carried state (v ∷ vs) (r ∷ rs) follow =
    (follow.0, follow.1, carried r follow.2, rows_carried c d carried r.next vs rs follow.3)

pub same_meaning_same_traces : SameMeaningSameTraces
same_meaning_same_traces c d same first vectors rows = (
  λ is. (
    subst (λ rs. AllZip MayStartAt rs first) (sym same.resets) is.0,
    rows_carried c d (λ row. (same.rows row).0) first vectors rows is.1,
  ),
  λ is. (
    subst (λ rs. AllZip MayStartAt rs first) same.resets is.0,
    rows_carried d c (λ row. (same.rows row).1) first vectors rows is.1,
  ),
)
