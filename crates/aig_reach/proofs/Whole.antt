-- The clauses of the unrolled circuit are satisfied exactly where a run reaches a bad state.
use Rattle.std.proofs.Common.{◌≡◌, ◌+◌, ◌*◌, ◌<◌, ◌++◌, ◌||◌, ◌∙◌, ℕ, zero, suc, List, [], ◌∷◌, Bool, true, length, map}
use Rattle.std.proofs.Common.{ap, ap₂, arith, get_or, length-append, refl, subst, sym}
use Rattle.std.specs.List.{list_any, range_with_len}
use Rattle.std.proofs.lemmas.List.Elements.{All-nil}
use Rattle.aig_circuit.specs.declared.circuit.Circuit.{Circuit}
use Rattle.aig_circuit.specs.declared.value.Val.{Val}
use Rattle.aig_circuit.specs.declared.value.Val.TheVariants.{Zero, One}
use Rattle.aig_circuit.specs.Wellformed.{IsWellFormed}
use Rattle.aig_circuit.proofs.Checking.{back, front, joined}
use Rattle.aig_image.proofs.Meaning.{image_means_the_same}
use Rattle.aig_meaning.specs.Meaning.{IsRow, Row, literal_value, latch_variables}
use Rattle.aig_meaning.specs.Trace.{Follow, IsFirstState, IsTrace}
use Rattle.aig_meaning.proofs.Related.{known_bad}
use Rattle.aig_meaning.proofs.Traces.{bad_length, one_trace, row_shown}
use Rattle.aig_cnf.specs.Clauses.{HasTrue, Satisfies, bad_clauses, is_true, step_clauses, truths}
use Rattle.aig_cnf.proofs.Existing.{is_one, one_truth, rounded, rounded_satisfies}
use Rattle.aig_cnf.proofs.Steps.{clauses_are_steps}
use Rattle.aig_cnf.proofs.Truths.{truth_literal}
use Rattle.aig_unroll.specs.Unrolled.{IsUnrolled, all_inputs, resets_of, uninitialised}
use Rattle.aig_unroll.specs.SideBySide.{bad_side_by_side, inputs_side_by_side, side_by_side}
use Rattle.aig_unroll.proofs.Traces.Whole.{unrolling_keeps_traces}
use Rattle.aig_witness.specs.declared.verdict.Verdict.{Verdict}
use Rattle.aig_witness.specs.declared.verdict.Verdict.TheVariants.{Confirmed, NotConfirmed}
use Rattle.aig_witness.specs.Witness.{Claim, IsHeld, IsConfirmedAt, IsVerdict}
use Rattle.aig_witness.proofs.Verdicts.{claims_have_files, each_long, one_verdict}
use Rattle.aig_reach.specs.Cut.{cut_claim}
use Rattle.aig_reach.specs.Laws.{CutsAreConfirmed, CutsHaveFiles, SatisfiableExactlyWhereReached}
use Rattle.aig_reach.specs.Laws.{UnsatisfiableMeansNone}
use Rattle.aig_reach.proofs.Cutting.{cut_is, first_starts, steps_long, steps_many}
use Rattle.aig_reach.proofs.Reached.{reached}
use Rattle.aig_reach.proofs.Setting.{all_stay, bad_set, inputs_sure, some_true, steps_to, sure}
use Rattle.aig_reach.proofs.Setting.{steps_long as padded_long, steps_many as padded_many, sure_starts}

-- the trace of a cut
pub cut_trace : (c : Circuit) (frames : ℕ) (a : ℕ → Bool) → IsWellFormed c
    → (rows : List Row) × (IsTrace c (cut_claim c frames a 0).first (cut_claim c frames a 0).steps rows
    × ((others : List Row) → IsTrace c (cut_claim c frames a 0).first (cut_claim c frames a 0).steps others
    → others ≡ rows))
cut_trace c frames a formed =
    let cut = cut_claim c frames a 0 in
    let one = one_trace c cut.first cut.steps formed (first_starts a 1 (resets_of c))
    (steps_long a (1 + uninitialised (resets_of c)) (length c.inputs) frames) in
    (one.0, (one.1, one.2))

pub cuts_have_files : CutsHaveFiles
cuts_have_files c frames a property formed below =
    let one = cut_trace c frames a formed in
    claims_have_files c (cut_claim c frames a property) one.0 formed below one.1.0

-- the inputs of the unrolled circuit, and its latches
pub inputs_are : (c d : Circuit) (frames : ℕ) → IsWellFormed c → IsUnrolled c frames d
    → d.inputs ≡ range_with_len 1 (all_inputs c frames)
inputs_are c d frames formed unrolled =
    let same = image_means_the_same c unrolled.0 formed unrolled.1 in
    ap (λ (e : Circuit). e.inputs) unrolled.2
    ∙ ap₂ (λ rs n. range_with_len 1 (uninitialised rs + frames * n)) same.resets same.inputs

no_latches : (c d : Circuit) (frames : ℕ) → IsUnrolled c frames d → latch_variables d ≡ []
no_latches c d frames unrolled = ap latch_variables unrolled.2

any_one : (a : ℕ → Bool) (ls : List ℕ) → list_any is_one (map (literal_value (truths a)) ls) ≡ list_any (is_true a) ls
any_one a [] = refl
any_one a (l ∷ ls) =
    ap₂ (λ x y. x || y) (ap is_one (truth_literal a l) ∙ one_truth (is_true a l)) (any_one a ls)

-- a row that follows is one of the circuit
pub row_there : (c : Circuit) (state : List Val) (vectors : List (List Val)) (before : List Row) (row : Row)
    (behind : List Row) → Follow c state vectors (before ++ row ∷ behind) → IsRow c row
row_there c state [] [] row behind follow = absurd follow
row_there c state [] (r ∷ rs) row behind follow = absurd follow
row_there c state (v ∷ vs) [] row behind follow = follow.2
row_there c state (v ∷ vs) (r ∷ rs) row behind follow = row_there c r.next vs rs row behind follow.3

as_long : (c : Circuit) (state : List Val) (vectors : List (List Val)) (rows : List Row)
    → Follow c state vectors rows → length vectors ≡ length rows
as_long c state [] [] follow = refl
as_long c state [] (row ∷ rows) follow = absurd follow
as_long c state (vector ∷ vectors) [] follow = absurd follow
as_long c state (vector ∷ vectors) (row ∷ rows) follow = ap suc (as_long c row.next vectors rows follow.3)

-- a place at which there is a 1 is one of the list
pub within : (values : List Val) (i : ℕ) → get_or values i Zero ≡ One → i < length values
within [] i is = cc
within (v ∷ vs) zero is = omega arith
within (v ∷ vs) (suc i) is = let behind = within vs i is in omega (arith, behind)

-- what is confirmed is of a bad state, at one of the steps
pub property_below : (c : Circuit) (state : List Val) (vectors : List (List Val)) (rows : List Row) (property step : ℕ)
    → Follow c state vectors rows → IsConfirmedAt property rows step → property < length c.bad
property_below c state vectors rows property step follow is =
    let row = row_there c state vectors is.before is.row is.behind
    (subst (λ (rs : List Row). Follow c state vectors rs) is.parted follow) in
    omega (arith, within is.row.bad property is.is_bad, bad_length c is.row row)

pub step_below : (c : Circuit) (state : List Val) (vectors : List (List Val)) (rows : List Row) (property step : ℕ)
    → Follow c state vectors rows → IsConfirmedAt property rows step → step < length vectors
step_below c state vectors rows property step follow is =
    omega (
      arith,
      as_long c state vectors rows follow,
      ap length is.parted,
      length-append is.before (is.row ∷ is.behind),
      is.place,
    )

-- where a step confirms, the first does
decided : (c : Circuit) (claim : Claim) (rows : List Row) (step : ℕ)
    → ((others : List Row) → IsTrace c claim.first claim.steps others → others ≡ rows)
    → IsConfirmedAt claim.property rows step → (v : Verdict) → IsVerdict c claim v
    → (first : ℕ) × IsVerdict c claim (Confirmed first)
decided c claim rows step once confirmed (Confirmed first) is = (first, is)
decided c claim rows step once confirmed NotConfirmed is =
    absurd (is.is_verdict step
    (subst (λ (rs : List Row). IsConfirmedAt claim.property rs step) (sym (once is.rows is.trace)) confirmed))

pub cuts_are_confirmed : CutsAreConfirmed
cuts_are_confirmed c d frames a formed formed_too unrolled satisfied =
    let first = (cut_claim c frames a 0).first in
    let steps = (cut_claim c frames a 0).steps in
    let given = inputs_side_by_side c first steps in
    let one = cut_trace c frames a formed in
    let rows : List Row = one.0 in
    let assigned = (clauses_are_steps d a).0 (front (HasTrue a) (step_clauses d) (d.bad ∷ []) satisfied) in
    let any : list_any (is_true a) d.bad ≡ true = (back (HasTrue a) (step_clauses d) (d.bad ∷ []) satisfied).0 in
    let row : Row = row_shown d (truths a) in
    let is_row : IsRow d row = (
      truths a,
      record {
        assigned = assigned;
        outputs_shown = refl;
        next_shown = refl;
        bad_shown = refl;
        constraints_shown = refl;
      },
    ) in
    let state_is : row.state ≡ [] = ap (map (truths a)) (no_latches c d frames unrolled) in
    let inputs_is : row.inputs ≡ given =
    ap (map (truths a)) (inputs_are c d frames formed unrolled) ∙ sym (cut_is a c frames 0) in
    let starts : IsFirstState d [] = subst (λ (e : Circuit). IsFirstState e []) (sym unrolled.2) tt in
    let many : length steps ≡ frames = steps_many a (1 + uninitialised (resets_of c)) (length c.inputs) frames in
    let trace : IsTrace d [] (given ∷ []) (row ∷ []) = (starts, (state_is, inputs_is, is_row, tt)) in
    let same : row ∷ [] ≡ side_by_side c first steps rows ∷ [] =
    (unrolling_keeps_traces c d first steps rows formed formed_too
    (subst (λ (n : ℕ). IsUnrolled c n d) (sym many) unrolled) one.1.0 (row ∷ [])).0 trace in
    let alike : row ≡ side_by_side c first steps rows = ap (λ (rs : List Row). get_or rs 0 row) same in
    let is_bad : list_any is_one (bad_side_by_side One rows) ≡ true =
    ap (λ (r : Row). list_any is_one r.bad) (sym alike) ∙ any_one a d.bad ∙ any in
    let found = reached [] rows (All-nil IsHeld) is_bad in
    let property : ℕ = found.0 in
    let below = property_below c first steps rows property found.1.0 one.1.0.1 found.1.1 in
    let claim : Claim = cut_claim c frames a property in
    let file = claims_have_files c claim rows formed below one.1.0 in
    let verdict = one_verdict c file.0 claim formed file.1 in
    let at = decided c claim rows found.1.0 one.1.1 found.1.1 verdict.0 verdict.1 in
    let early = step_below c first steps at.1.rows property at.0 at.1.trace.1 at.1.is_verdict.confirmed in
    (property, at.0, below, omega (arith, early, many), at.1)

-- a claim that is confirmed early enough sets the unrolled circuit
satisfied_by : (c d : Circuit) (frames : ℕ) → IsWellFormed c → IsWellFormed d → IsUnrolled c frames d
    → (claim : Claim) (step : ℕ) → step < frames → IsVerdict c claim (Confirmed step)
    → (a : ℕ → Bool) × Satisfies a (bad_clauses d)
satisfied_by c d frames formed formed_too unrolled claim step early verdict =
    let is = verdict.is_verdict.confirmed in
    let first = map sure claim.first in
    let inputs = length c.inputs in
    let steps = steps_to inputs frames claim.steps in
    let one = one_trace c first steps formed (sure_starts (resets_of c) claim.first verdict.trace.0)
    (padded_long inputs frames claim.steps
    (each_long c claim.first claim.steps verdict.rows verdict.trace.1)) in
    let many : length steps ≡ frames = padded_many inputs frames claim.steps in
    let side : Row = side_by_side c first steps one.0 in
    let trace = (unrolling_keeps_traces c d first steps one.0 formed formed_too
    (subst (λ (n : ℕ). IsUnrolled c n d) (sym many) unrolled) one.1 (side ∷ [])).1 refl in
    let row : IsRow d side = trace.1.2 in
    let sure_given = inputs_sure (resets_of c) claim.first inputs frames claim.steps in
    let b = row.0 in
    let assigned = row.1.assigned in
    let place = length is.before * length c.bad + claim.property in
    let set : get_or side.bad place Zero ≡ One =
    bad_set c formed claim.property claim.first first frames claim.steps is.before is.row is.behind one.0
    (all_stay claim.first)
    (subst (λ (rs : List Row). Follow c claim.first claim.steps rs) is.parted verdict.trace.1) one.1.1
    (omega (arith, early, is.place)) is.held is.holds is.is_bad in
    let a = rounded d formed_too [] side.inputs b assigned tt sure_given in
    let one_bad : list_any (is_true a) d.bad ≡ true =
    some_true d formed_too [] side.inputs b assigned tt sure_given d.bad (known_bad d formed_too) place
    (ap (λ (vs : List Val). get_or vs place Zero) (sym row.1.bad_shown) ∙ set) in (
      a,
      joined (HasTrue a) (step_clauses d) (d.bad ∷ [])
          (rounded_satisfies d formed_too [] side.inputs b assigned tt sure_given) (one_bad, tt),
    )

pub unsatisfiable_means_none : UnsatisfiableMeansNone
unsatisfiable_means_none c d frames formed formed_too unrolled none claim step early verdict =
    let some = satisfied_by c d frames formed formed_too unrolled claim step early verdict in none some.0 some.1

pub satisfiable_exactly_where_reached : SatisfiableExactlyWhereReached
satisfiable_exactly_where_reached c d frames formed formed_too unrolled = (
  λ s.
      let found = cuts_are_confirmed c d frames s.0 formed formed_too unrolled s.1 in
      (cut_claim c frames s.0 found.0, found.1, found.3, found.4),
  λ r. satisfied_by c d frames formed formed_too unrolled r.0 r.1 r.2 r.3,
)
