-- The verdict on the rows of a run.
use Rattle.std.proofs.Common.{◌≡◌, ◌<◌, ◌≤◌, ◌&&◌, ◌++◌, ◌∙◌, ℕ, List, [], ◌∷◌, Bool, true, false, Option, None, Some}
use Rattle.std.proofs.Common.{Err, IfOk, Ok, Result, ap, arith, drop, if◌then◌else◌, inl, inr, length, option_and_then}
use Rattle.std.proofs.Common.{refl, subst, sym}
use Rattle.std.specs.List.{All, AllByRecursion}
use Rattle.std.proofs.Math.Seq.{drop-append_seam}
use Rattle.std.proofs.lemmas.Bool.{cases_lt}
use Rattle.std.proofs.lemmas.List.Elements.{All-cons, All-head, All-nil, All-tail}
use Rattle.aig_circuit.specs.declared.circuit.Circuit.{Circuit}
use Rattle.aig_memory.specs.declared.out_of_memory.OutOfMemory.{OutOfMemory}
use Rattle.aig_circuit.specs.declared.value.Val.{Val}
use Rattle.aig_circuit.specs.Wellformed.{IsWellFormed}
use Rattle.aig_meaning.specs.Meaning.{Row}
use Rattle.aig_meaning.specs.Trace.{Follow, IsFirstState, IsTrace, state_after}
use Rattle.aig_meaning.proofs.Traces.{one_trace}
use Rattle.aig_witness.specs.Parts.Witnessing.{are_ones}
use Rattle.aig_witness.specs.Witness.{IsHeld}
use Rattle.aig_witness.proofs.Witnessing.{ones_are, ones_not}
use Rattle.aig_lasso.specs.Judging.{IsVerdictOn}
use Rattle.aig_lasso.specs.Lasso.{IsLassoAt, Meet}
use Rattle.aig_lasso.specs.Parts.Searching.{all_hold, all_met, step_from, verdict_from, verdict_by}
use Rattle.aig_lasso.specs.declared.verdict.LassoVerdict.{LassoVerdict}
use Rattle.aig_lasso.specs.declared.verdict.LassoVerdict.TheVariants.{Confirmed, NotConfirmed}
use Rattle.aig_lasso.proofs.Longest.{longest_loops_meet_most}
use Rattle.aig_lasso.proofs.Notes.{met_by, unmet}
use Rattle.aig_lasso.proofs.Starts.{IsFirstWith, both, found_by, none_by}

-- the verdict on rows from this first state
abbrev IsVerdictOf : ℕ → List Val → List Row → LassoVerdict → Type 0
IsVerdictOf goals first rows (Confirmed start) =
    IsLassoAt goals first rows start × ((earlier : ℕ) → earlier < start → ¬ IsLassoAt goals first rows earlier)
IsVerdictOf goals first rows NotConfirmed = (start : ℕ) → ¬ IsLassoAt goals first rows start

hold_by : (rows : List Row) → all_hold rows ≡ true → All IsHeld rows
hold_by [] is = All-nil IsHeld
hold_by (row ∷ rows) is =
    let parts = both (are_ones row.constraints) (all_hold rows) is in
    All-cons IsHeld row rows (ones_are row.constraints parts.0) (hold_by rows parts.1)

fail_case : (row : Row) (rows : List Row) (b : Bool) → are_ones row.constraints ≡ b → (b && all_hold rows) ≡ false
    → (all_hold rows ≡ false → ¬ All IsHeld rows) → ¬ All IsHeld (row ∷ rows)
fail_case row rows true here is later held = later is (All-tail IsHeld row rows held)
fail_case row rows false here is later held = ones_not row.constraints here (All-head IsHeld row rows held)

fail_by : (rows : List Row) → all_hold rows ≡ false → ¬ All IsHeld rows
fail_by [] is = cc
fail_by (row ∷ rows) is = fail_case row rows (are_ones row.constraints) refl is (λ later. fail_by rows later)

-- the row behind the stem begins in the state behind the stem
state_there : (c : Circuit) (state : List Val) (steps : List (List Val)) (stem : List Row) (turn : Row)
    (turns : List Row) → Follow c state steps (stem ++ (turn ∷ turns)) → turn.state ≡ state_after state stem
state_there c state [] [] turn turns follow = absurd follow
state_there c state [] (r ∷ rs) turn turns follow = absurd follow
state_there c state (v ∷ vs) [] turn turns follow = follow.0
state_there c state (v ∷ vs) (r ∷ rs) turn turns follow = state_there c r.next vs rs turn turns follow.3

loop_is : (rows stem : List Row) (turn : Row) (turns : List Row) (start : ℕ) → rows ≡ stem ++ (turn ∷ turns)
    → start ≡ length stem → drop start rows ≡ turn ∷ turns
loop_is rows stem turn turns start parted place =
    ap (λ (n : ℕ). drop n rows) place ∙ ap (λ (rs : List Row). drop (length stem) rs) parted
    ∙ drop-append_seam stem (turn ∷ turns)

module _ (goals : ℕ) (c : Circuit) (first : List Val) (steps : List (List Val)) (rows : List Row)
    (follow : Follow c first steps rows) where
  abbrev end : List Val
  end = state_after first rows

  -- a loop begins in the state in which it ends
  begins : (start : ℕ) (is : IsLassoAt goals first rows start) → is.turn.state ≡ end
  begins start is =
      state_there c first steps is.stem is.turn is.turns
      (subst (λ (rs : List Row). Follow c first steps rs) is.parted follow)
      ∙ sym is.closed

  closes : (start : ℕ) (is : IsFirstWith end rows start) → end ≡ state_after first is.stem
  closes start is =
      sym is.is
      ∙ state_there c first steps is.stem is.turn is.turns
      (subst (λ (rs : List Row). Follow c first steps rs) is.parted follow)

  -- no loop begins at an earlier step
  none_before : (start : ℕ) → IsFirstWith end rows start → (earlier : ℕ) → earlier < start
      → ¬ IsLassoAt goals first rows earlier
  none_before start is earlier low lasso =
      is.first lasso.stem lasso.turn lasso.turns lasso.parted (omega (arith, lasso.place, low)) (begins earlier lasso)

  -- where one begins at a later step, the goals are met from the first on
  met_from : (start : ℕ) → IsFirstWith end rows start → (later : ℕ) → start ≤ later → IsLassoAt goals first rows later
      → (goal : ℕ) → goal < goals → Meet (drop start rows) goal
  met_from start is later high lasso goal few =
      let longest = longest_loops_meet_most goals first rows later lasso is.stem is.turn is.turns is.parted
      (omega (arith, is.long, high)) (closes start is) in
      subst (λ (rs : List Row). Meet rs goal)
      (sym (loop_is rows longest.stem longest.turn longest.turns start longest.parted (is.long ∙ longest.place)))
      (longest.met goal few)

  met_case : (start : ℕ) (met : Bool) → All IsHeld rows → IsFirstWith end rows start
      → all_met goals (drop start rows) ≡ met
      → IsVerdictOf goals first rows (if met then Confirmed start else NotConfirmed)
  met_case start true held is met =
      let loop = loop_is rows is.stem is.turn is.turns start is.parted is.long in (
        record {
          stem = is.stem;
          turn = is.turn;
          turns = is.turns;
          parted = is.parted;
          place = is.long;
          closed = closes start is;
          held = held;
          met = λ goal few. subst (λ (rs : List Row). Meet rs goal) loop (met_by goals (drop start rows) met goal few);
        },
        none_before start is,
      )
  met_case start false held is met = λ other lasso.
      elim (cases_lt other start) [
        | inl low ↦ none_before start is other low lasso
        | inr high ↦ unmet goals (drop start rows) met (met_from start is other (omega (arith, high)) lasso)
      ]

  start_case : (found : Option ℕ) → All IsHeld rows → step_from end 0 rows ≡ found
      → IsVerdictOf goals first rows (verdict_from goals rows found)
  start_case None held is = λ start lasso.
      none_by end 0 rows lasso.stem lasso.turn lasso.turns is lasso.parted (begins start lasso)
  start_case (Some start) held is =
      let found = found_by end 0 start rows is in
      let same : found.0 ≡ start = omega (arith, found.1) in
      met_case start (all_met goals (drop start rows)) held
      (subst (λ (n : ℕ). IsFirstWith end rows n) same found.2) refl

  hold_case : (hold : Bool) → all_hold rows ≡ hold
      → IsVerdictOf goals first rows
      (verdict_from goals rows (option_and_then (λ e. step_from e 0 rows) (if hold then Some end else None)))
  hold_case true is = start_case (step_from end 0 rows) (hold_by rows is) refl
  hold_case false is = λ start lasso. fail_by rows is lasso.held

  pub verdict_is : IsVerdictOf goals first rows (verdict_by goals first rows)
  verdict_is = hold_case (all_hold rows) refl

-- what is told of the one trace is told of the run
module _ (c : Circuit) (first : List Val) (steps : List (List Val)) (rows : List Row)
    (trace : IsTrace c first steps rows)
    (only : (others : List Row) → IsTrace c first steps others → others ≡ rows) where
  told : (verdict : LassoVerdict) → IsVerdictOf (length c.bad) first rows verdict → IsVerdictOn c first steps verdict
  told (Confirmed start) is = (
    record { rows = rows; trace = trace; lasso = is.0 },
    λ earlier low other.
        is.1 earlier low
        (subst (λ (rs : List Row). IsLassoAt (length c.bad) first rs earlier) (only other.rows other.trace)
        other.lasso),
  )
  told NotConfirmed is = λ start other.
      is start
      (subst (λ (rs : List Row). IsLassoAt (length c.bad) first rs start) (only other.rows other.trace) other.lasso)

pub is_verdict_on : (c : Circuit) (first : List Val) (steps : List (List Val)) (verdict : LassoVerdict) → IsWellFormed c
    → IsFirstState c first → AllByRecursion (λ (given : List Val). length given ≡ length c.inputs) steps
    → ((rows : List Row) → IsTrace c first steps rows → verdict ≡ verdict_by (length c.bad) first rows)
    → IsVerdictOn c first steps verdict
is_verdict_on c first steps verdict formed starts long is =
    let one = one_trace c first steps formed starts long in
    told c first steps one.0 one.1 one.2 verdict
    (subst (λ (v : LassoVerdict). IsVerdictOf (length c.bad) first one.0 v) (sym (is one.0 one.1))
    (verdict_is (length c.bad) c first steps one.0 one.1.1))

pub is_told : (c : Circuit) (first : List Val) (steps : List (List Val)) (result : Result LassoVerdict OutOfMemory)
    → IsWellFormed c → IsFirstState c first
    → AllByRecursion (λ (given : List Val). length given ≡ length c.inputs) steps
    → ((rows : List Row) → IsTrace c first steps rows
    → IfOk result (λ (verdict : LassoVerdict). verdict ≡ verdict_by (length c.bad) first rows))
    → IfOk result (IsVerdictOn c first steps)
is_told c first steps (Ok verdict) formed starts long is = is_verdict_on c first steps verdict formed starts long is
is_told c first steps (Err refused) formed starts long is = tt
