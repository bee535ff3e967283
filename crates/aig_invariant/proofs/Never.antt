-- By induction on a run: no state of it meets a cube, and no bad state of it is 1, since no step breaks the invariant.
use Rattle.std.proofs.Common.{◌≡◌, ◌⊎◌, ◌++◌, ℕ, zero, List, [], ◌∷◌, Bool, None, Some, arith}
use Rattle.std.proofs.Common.{inl, inr, length, map, refl, subst, sym}
use Rattle.std.specs.List.{All, AllByRecursion, AllZip, Contains}
use Rattle.std.proofs.lemmas.List.Elements.{All-cons, All-head, All-map}
use Rattle.std.proofs.lemmas.List.Elements.{All-nil, All-tail, All-weaker, Contains-append_right}
use Rattle.aig_circuit.specs.declared.circuit.Circuit.{Circuit}
use Rattle.aig_circuit.specs.declared.value.Val.{Val}
use Rattle.aig_circuit.specs.declared.value.Val.TheVariants.{Zero, One}
use Rattle.aig_circuit.specs.Wellformed.{IsWellFormed}
use Rattle.aig_meaning.specs.Completion.{RowStays}
use Rattle.aig_meaning.specs.Meaning.{IsRow, Row}
use Rattle.aig_meaning.specs.Meaning.{next_literals}
use Rattle.aig_meaning.specs.Trace.{Follow, IsFirstState}
use Rattle.aig_meaning.proofs.Related.{known_next}
use Rattle.aig_meaning.proofs.Traces.{known_values_stay, one_trace}
use Rattle.aig_cnf.specs.Clauses.{Satisfies, bad_clauses}
use Rattle.aig_cnf.proofs.Existing.{IsSure}
use Rattle.aig_unroll.specs.Unrolled.{IsUnrolled, resets_of}
use Rattle.aig_reach.proofs.Setting.{all_stay, are_sure, sure, sure_starts}
use Rattle.aig_replay.specs.Alone.{with_bad_alone}
use Rattle.aig_replay.proofs.BadAlone.{alone_is_well_formed, verdict_there}
use Rattle.aig_witness.specs.declared.verdict.Verdict.TheVariants.{Confirmed}
use Rattle.aig_witness.specs.Witness.{Claim, IsBad, IsHeld, IsVerdict}
use Rattle.aig_witness.proofs.Verdicts.{each_long}
use Rattle.aig_invariant.specs.Invariant.{Cube, meets, with_invariant}
use Rattle.aig_invariant.specs.Laws.{Breaks, InvariantsMeanNever}
use Rattle.aig_invariant.proofs.Broken.{satisfiable_exactly_where_broken, there_is_one}
use Rattle.aig_invariant.proofs.Kept.{all_sure, one_kept, ones_kept, steps_long, steps_stay, steps_sure}
use Rattle.aig_invariant.proofs.Kept.{sure_steps}
use Rattle.aig_invariant.proofs.Listed.{IsOff, cubes_off}
use Rattle.aig_invariant.proofs.Meeting.{apart, sure_met, zero_where_not_one}

-- the state meets none of the cubes
abbrev IsUnmet : List Cube → List Val → Type 0
IsUnmet cubes state = All (λ (v : Val). v ≡ Zero) (map (meets state) cubes)

-- none is met where none can be, since no x is in the state
unmet_by : (cubes : List Cube) (state : List Val) → AllByRecursion IsSure state
    → ¬ Contains (map (meets state) cubes) One → IsUnmet cubes state
unmet_by [] state sure none = All-nil (λ (v : Val). v ≡ Zero)
unmet_by (q ∷ qs) state sure none =
    let met = map (meets state) qs in
    All-cons (λ (v : Val). v ≡ Zero) (meets state q) met
    (zero_where_not_one (meets state q) (sure_met One q state tt sure) (λ is. none (zero, omega arith, is)))
    (unmet_by qs state sure
    (λ there. none (Contains-append_right (meets state q ∷ []) met One there)))

module _ (c d : Circuit) (cubes : List Cube) (formed : IsWellFormed c)
    (formed_more : IsWellFormed (with_invariant cubes c)) (formed_unrolled : IsWellFormed d)
    (unrolled : IsUnrolled (with_invariant cubes c) 1 d) (none : (a : ℕ → Bool) → ¬ Satisfies a (bad_clauses d)) where
  -- no step breaks the invariant
  unbroken : (row : Row) → ¬ Breaks c cubes row
  unbroken row breaks =
      let exactly = satisfiable_exactly_where_broken c d cubes formed formed_more formed_unrolled unrolled in
      let some = exactly.1 (row, breaks) in
      none some.0 some.1

  -- what a step leads to
  record IsSafe (row : Row) : Type 0 where
    pub bad : (property : ℕ) → ¬ IsBad property row
    pub known : AllByRecursion IsSure row.next
    pub unmet : IsUnmet cubes row.next

  safe : (row : Row) → IsRow c row → AllByRecursion IsSure row.state → AllByRecursion IsSure row.inputs
      → IsUnmet cubes row.state → IsHeld row → IsSafe row
  safe row (b, shown) sure_state sure_given unmet held =
      let wrong_is = λ (wrong : Contains row.bad One ⊎ Contains (map (meets row.next) cubes) One).
      unbroken row (record { is_row = (b, shown); unmet = unmet; held = held; wrong = wrong }) in
      let sure_next : AllByRecursion IsSure row.next =
      subst (AllByRecursion IsSure) (sym shown.next_shown)
      (all_sure c formed row.state row.inputs b shown.assigned sure_state sure_given (next_literals c)
      (known_next c formed)) in
      record {
        bad = λ property is. wrong_is (inl (there_is_one row.bad property is));
        known = sure_next;
        unmet = unmet_by cubes row.next sure_next (λ met. wrong_is (inr met));
      }

  -- the same for a row that follows, of one that it stays with
  safe_there : (state vector : List Val) (vectors : List (List Val)) (row kept : Row) (others : List Row)
      → AllByRecursion IsSure state → AllByRecursion IsSure vector → IsUnmet cubes state
      → Follow c state (vector ∷ vectors) (kept ∷ others) → RowStays row kept → IsHeld row → IsSafe kept
  safe_there state vector vectors row kept others sure_state sure_vector unmet follow stay held =
      safe kept follow.2 (subst (AllByRecursion IsSure) (sym follow.0) sure_state)
      (subst (AllByRecursion IsSure) (sym follow.1) sure_vector) (subst (IsUnmet cubes) (sym follow.0) unmet)
      (ones_kept row.constraints kept.constraints held stay.constraints)

  nowhere : (property : ℕ) (before : List Row) (row : Row) (behind : List Row) (state : List Val)
      (vectors : List (List Val)) (others : List Row) → AllByRecursion IsSure state
      → AllByRecursion (AllByRecursion IsSure) vectors → IsUnmet cubes state → Follow c state vectors others
      → AllZip RowStays (before ++ row ∷ behind) others → All IsHeld before → IsHeld row → ¬ IsBad property row
  nowhere property [] row behind state vectors [] sure sures unmet follow stay held holds bad = absurd stay
  nowhere property [] row behind state [] (s ∷ ss) sure sures unmet follow stay held holds bad = absurd follow
  nowhere property [] row behind state (v ∷ vs) (s ∷ ss) sure sures unmet follow stay held holds bad =
      (safe_there state v vs row s ss sure sures.0 unmet follow stay.0 holds).bad property
      (one_kept row.bad s.bad property stay.0.bad bad)
  nowhere property (r ∷ rs) row behind state vectors [] sure sures unmet follow stay held holds bad = absurd stay
  nowhere property (r ∷ rs) row behind state [] (s ∷ ss) sure sures unmet follow stay held holds bad = absurd follow
  nowhere property (r ∷ rs) row behind state (v ∷ vs) (s ∷ ss) sure sures unmet follow stay held holds bad =
      let there = safe_there state v vs r s ss sure sures.0 unmet follow stay.0 (All-head IsHeld r rs held) in
      nowhere property rs row behind s.next vs ss there.known sures.1 there.unmet follow.3 stay.1
      (All-tail IsHeld r rs held) holds bad

  never : All (IsOff (resets_of c)) cubes → (claim : Claim) (step : ℕ) → ¬ IsVerdict c claim (Confirmed step)
  never off claim step verdict =
      let is = verdict.is_verdict.confirmed in
      let first = map sure claim.first in
      let steps = sure_steps claim.steps in
      let starts : IsFirstState c first = sure_starts (resets_of c) claim.first verdict.trace.0 in
      let one = one_trace c first steps formed starts
      (steps_long (length c.inputs) claim.steps (each_long c claim.first claim.steps verdict.rows verdict.trace.1)) in
      let stay : AllZip RowStays verdict.rows one.0 =
      known_values_stay c claim.first first claim.steps steps verdict.rows one.0 formed (all_stay claim.first)
      (steps_stay claim.steps) verdict.trace one.1 in
      let unmet : IsUnmet cubes first =
      All-map (λ (v : Val). v ≡ Zero) (meets first) cubes
      (All-weaker (IsOff (resets_of c)) (λ (q : Cube). meets first q ≡ Zero)
      (λ q e. apart One (resets_of c) q first starts e) cubes off) in
      nowhere claim.property is.before is.row is.behind first steps one.0 (are_sure claim.first)
      (steps_sure claim.steps) unmet one.1.1
      (subst (λ (rs : List Row). AllZip RowStays rs one.0) is.parted stay) is.held is.holds is.is_bad

pub invariants_mean_never : InvariantsMeanNever
invariants_mean_never c d None bytes cubes good there has good_more good_unrolled unrolled none claim step named =
    never c d cubes good good_more good_unrolled unrolled none (cubes_off (resets_of c) bytes cubes has) claim step
invariants_mean_never c d (Some n) bytes cubes good there has good_more good_unrolled unrolled none claim step named =
    λ verdict. never (with_bad_alone n c) d cubes (alone_is_well_formed c n there good) good_more good_unrolled unrolled
    none (cubes_off (resets_of c) bytes cubes has) (record claim { property = 0 }) step
    (verdict_there c n there claim step (named n refl) verdict)
