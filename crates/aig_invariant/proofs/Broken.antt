-- A step that breaks an invariant is one of the circuit with the invariant that is bad at once, and the other way
-- about: both show the same.
use Rattle.std.proofs.Common.{◌≡◌, ◌<◌, ◌∙◌, ◌++◌, ℕ, zero, List, [], ◌∷◌, ap, arith, get_or, length, map, refl}
use Rattle.std.proofs.Common.{inl, inr, subst, sym}
use Rattle.std.specs.List.{All, AllByRecursion, AllZip, Contains}
use Rattle.std.proofs.lemmas.List.{get_or_default, length-map}
use Rattle.std.proofs.lemmas.List.Elements.{All-append, All-cons, All-contains, All-from_recursion, All-head}
use Rattle.std.proofs.lemmas.List.Elements.{All-nil, All-same, All-tail, Contains-append_cases}
use Rattle.std.proofs.lemmas.List.Elements.{Contains-append_left, Contains-append_right}
use Rattle.aig_circuit.specs.declared.circuit.Circuit.{Circuit}
use Rattle.aig_circuit.specs.declared.circuit.Gate.{Gate}
use Rattle.aig_circuit.specs.declared.circuit.Latch.{Latch}
use Rattle.aig_circuit.specs.declared.value.Val.{Val}
use Rattle.aig_circuit.specs.declared.value.Val.TheVariants.{Zero, One}
use Rattle.aig_circuit.specs.Values.{value_not}
use Rattle.aig_circuit.specs.Wellformed.{IsWellFormed}
use Rattle.aig_meaning.specs.Meaning.{Holds, IsRow, IsStepAssignment, Row}
use Rattle.aig_meaning.specs.Meaning.{latch_variables, literal_value}
use Rattle.aig_meaning.specs.Trace.{Follow, IsFirstState, IsTrace, MayStartAt}
use Rattle.aig_meaning.proofs.Existing.{one_step_assignment}
use Rattle.aig_meaning.proofs.Related.{contained_later}
use Rattle.aig_meaning.proofs.Traces.{inputs_length, one_row, row_shown, state_length}
use Rattle.aig_reach.proofs.Whole.{row_there, satisfiable_exactly_where_reached, within}
use Rattle.aig_witness.specs.declared.verdict.Verdict.TheVariants.{Confirmed}
use Rattle.aig_witness.specs.Witness.{Claim, IsBad, IsHeld, IsVerdict}
use Rattle.aig_invariant.specs.Invariant.{Cube, freed, meets, with_invariant}
use Rattle.aig_invariant.specs.Laws.{Breaks, SatisfiableExactlyWhereBroken}
use Rattle.aig_invariant.proofs.Grown.{grown, inputs_stay, not_twice, plain_values, variables_stay}
use Rattle.aig_invariant.proofs.Kept.{IsOne}

each_gate : (P : Gate → Type 0) (gs : List Gate) → ((g : Gate) → Contains gs g → P g) → AllByRecursion P gs
each_gate P [] holds = tt
each_gate P (g ∷ gs) holds =
    (holds g (zero, omega arith, refl), each_gate P gs (λ h h_in. holds h (contained_later g gs h h_in)))

-- latches that may start at 0 or at 1 start at any values
free_starts : (a : ℕ → Val) (ls : List Latch)
    → AllZip MayStartAt (map (λ (l : Latch). l.reset) (map freed ls))
    (map a (map (λ (l : Latch). l.var) (map freed ls)))
free_starts a [] = tt
free_starts a (l ∷ ls) = (tt, free_starts a ls)

-- a 1 is at a place, and what is 1 at a place is there
pub one_at : (xs : List Val) → Contains xs One → (i : ℕ) × (get_or xs i Zero ≡ One)
one_at xs is = (is.0, get_or_default xs is.0 Zero One is.1 ∙ is.2)

pub there_is_one : (xs : List Val) (i : ℕ) → get_or xs i Zero ≡ One → Contains xs One
there_is_one xs i is =
    let low : i < length xs = within xs i is in (i, low, get_or_default xs i One Zero low ∙ is)

-- all of these and all of those
all_in_front : (xs ys : List Val) → All IsOne (xs ++ ys) → All IsOne xs
all_in_front [] ys all = All-nil IsOne
all_in_front (x ∷ xs) ys all =
    All-cons IsOne x xs (All-head IsOne x (xs ++ ys) all) (all_in_front xs ys (All-tail IsOne x (xs ++ ys) all))

all_behind : (xs ys : List Val) → All IsOne (xs ++ ys) → All IsOne ys
all_behind [] ys all = all
all_behind (x ∷ xs) ys all = all_behind xs ys (All-tail IsOne x (xs ++ ys) all)

-- where the negation of a value is 1, it is 0, and the other way about
not_one : (v : Val) → value_not v ≡ One → v ≡ Zero
not_one v is = sym (not_twice v) ∙ ap value_not is

abbrev IsZero : Val → Type 0
IsZero v = v ≡ Zero

all_not : (state : List Val) (cubes : List Cube)
    → All IsOne (map (λ (q : Cube). value_not (meets state q)) cubes) → All IsZero (map (meets state) cubes)
all_not state [] all = All-nil IsZero
all_not state (q ∷ qs) all =
    let rest = map (λ (p : Cube). value_not (meets state p)) qs in
    let first = value_not (meets state q) in
    All-cons IsZero (meets state q) (map (meets state) qs) (not_one (meets state q) (All-head IsOne first rest all))
    (all_not state qs (All-tail IsOne first rest all))

all_ones : (state : List Val) (cubes : List Cube) → All IsZero (map (meets state) cubes)
    → All IsOne (map (λ (q : Cube). value_not (meets state q)) cubes)
all_ones state [] all = All-nil IsOne
all_ones state (q ∷ qs) all =
    let rest = map (λ (p : Cube). value_not (meets state p)) qs in
    let first = value_not (meets state q) in
    All-cons IsOne first rest (ap value_not (All-head IsZero (meets state q) (map (meets state) qs) all))
    (all_ones state qs (All-tail IsZero (meets state q) (map (meets state) qs) all))

module _ (c : Circuit) (cubes : List Cube) where
  abbrev pub more : Circuit
  more = with_invariant cubes c

  -- what values of the circuit with the invariant show, and what the same values show of the circuit itself
  record ShowsBoth (a : ℕ → Val) (row : Row) : Type 0 where
    pub is_row : IsRow c row
    pub constraints : map (literal_value a) more.constraints
        ≡ row.constraints ++ map (λ (q : Cube). value_not (meets row.state q)) cubes
    pub bad : map (literal_value a) more.bad ≡ row.bad ++ map (meets row.next) cubes

  shows_both : (state given : List Val) (a : ℕ → Val) → IsStepAssignment more state given a
      → ShowsBoth a (row_shown c a)
  shows_both state given a is =
      let shows = grown a is.constant cubes c (each_gate (Holds a) more.gates is.gates) in
      record {
        is_row = (
          a,
          record {
            assigned = record {
              constant = is.constant;
              inputs = refl;
              latches = refl;
              gates = λ g g_in.
                  All-contains (Holds a) c.gates g (All-from_recursion (Holds a) c.gates shows.gates) g_in;
            };
            outputs_shown = refl;
            next_shown = refl;
            bad_shown = refl;
            constraints_shown = refl;
          },
        );
        constraints = shows.constraints
            ∙ ap (λ (s : List Val). map (literal_value a) c.constraints
            ++ map (λ (q : Cube). value_not (meets s q)) cubes) (plain_values a (latch_variables c));
        bad = shows.bad;
      }

  -- a step of the circuit with the invariant that is bad breaks it
  broken_by : (row : Row) (property : ℕ) → IsRow more row → IsHeld row → IsBad property row
      → (broken : Row) × Breaks c cubes broken
  broken_by row property (a, shown) held bad =
      let both = shows_both row.state row.inputs a shown.assigned in
      let here : Row = row_shown c a in
      let apart = map (λ (q : Cube). value_not (meets here.state q)) cubes in
      let ones : All IsOne (here.constraints ++ apart) =
      All-same IsOne (here.constraints ++ apart) row.constraints
      (sym (shown.constraints_shown ∙ both.constraints)) held in
      let wrong : Contains (here.bad ++ map (meets here.next) cubes) One =
      subst (λ (xs : List Val). Contains xs One) (shown.bad_shown ∙ both.bad) (there_is_one row.bad property bad) in (
        here,
        record {
          is_row = both.is_row;
          unmet = all_not here.state cubes (all_behind here.constraints apart ones);
          held = all_in_front here.constraints apart ones;
          wrong = Contains-append_cases here.bad (map (meets here.next) cubes) One wrong;
        },
      )

  module _ (formed : IsWellFormed c) (formed_more : IsWellFormed more) where
    -- the values of a step are those of a row that the circuit with the invariant has too
    values_of : (row : Row) → IsRow c row
        → (a : ℕ → Val) × IsStepAssignment more row.state row.inputs a × ShowsBoth a row
    values_of row is =
        let long = state_length c row is in
        let long_too = inputs_length c row is in
        let all = one_step_assignment more row.state row.inputs formed_more
        (long ∙ sym (length-map c.latches freed)) (long_too ∙ sym (ap length (inputs_stay cubes c))) in
        let a : ℕ → Val = all.0 in
        let both = shows_both row.state row.inputs a all.1 in
        let one = one_row c row.state row.inputs formed long long_too in
        let latches : map a (latch_variables c) ≡ row.state =
        ap (map a) (sym (variables_stay c.latches)) ∙ all.1.latches in
        let inputs : map a c.inputs ≡ row.inputs = ap (map a) (sym (inputs_stay cubes c)) ∙ all.1.inputs in
        let same : row_shown c a ≡ row =
        one.4 (row_shown c a) latches inputs both.is_row ∙ sym (one.4 row refl refl is) in
        (a, all.1, subst (ShowsBoth a) same both)

    -- what shows a bad state where the constraints hold is claimed rightly
    claimed : (state given : List Val) (a : ℕ → Val) → IsStepAssignment more state given a
        → All IsOne (map (literal_value a) more.constraints) → Contains (map (literal_value a) more.bad) One
        → (claim : Claim) × (step : ℕ) × (step < 1) × IsVerdict more claim (Confirmed step)
    claimed state given a is holds wrong =
        let row = row_shown more a in
        let is_row : IsRow more row = (
          a,
          record {
            assigned = record { constant = is.constant; inputs = refl; latches = refl; gates = is.gates };
            outputs_shown = refl;
            next_shown = refl;
            bad_shown = refl;
            constraints_shown = refl;
          },
        ) in
        let bad = one_at row.bad wrong in
        let claim : Claim = record { property = bad.0; first = row.state; steps = row.inputs ∷ [] } in
        let starts : IsFirstState more row.state = free_starts a c.latches in
        let trace : IsTrace more claim.first claim.steps (row ∷ []) = (starts, (refl, refl, is_row, tt)) in (
          claim,
          0,
          omega arith,
          record {
            rows = row ∷ [];
            trace = trace;
            is_verdict = record {
              confirmed = record {
                before = [];
                row = row;
                behind = [];
                parted = refl;
                place = refl;
                is_bad = bad.1;
                holds = holds;
                held = All-nil IsHeld;
              };
              first = λ earlier less. absurd (omega (arith, less));
            };
          },
        )

    claimed_by : (row : Row) → Breaks c cubes row
        → (claim : Claim) × (step : ℕ) × (step < 1) × IsVerdict more claim (Confirmed step)
    claimed_by row breaks =
        let (a, is, both) = values_of row breaks.is_row in
        let apart = map (λ (q : Cube). value_not (meets row.state q)) cubes in
        let met = map (meets row.next) cubes in
        claimed row.state row.inputs a is
        (All-same IsOne (map (literal_value a) more.constraints) (row.constraints ++ apart) both.constraints
        (All-append IsOne row.constraints apart breaks.held (all_ones row.state cubes breaks.unmet)))
        (subst (λ (xs : List Val). Contains xs One) (sym both.bad)
        (elim breaks.wrong [
          | inl bad ↦ Contains-append_left row.bad met One bad
          | inr later ↦ Contains-append_right row.bad met One later
        ]))

    -- a verdict on a first step is of a row
    broken_at : (claim : Claim) (step : ℕ) → step < 1 → IsVerdict more claim (Confirmed step)
        → (broken : Row) × Breaks c cubes broken
    broken_at claim step early verdict =
        let is = verdict.is_verdict.confirmed in
        broken_by is.row claim.property
        (row_there more claim.first claim.steps is.before is.row is.behind
        (subst (λ (rs : List Row). Follow more claim.first claim.steps rs) is.parted verdict.trace.1)) is.holds
        is.is_bad

pub satisfiable_exactly_where_broken : SatisfiableExactlyWhereBroken
satisfiable_exactly_where_broken c d cubes formed formed_more formed_unrolled unrolled =
    let more = with_invariant cubes c in
    let exactly = satisfiable_exactly_where_reached more d 1 formed_more formed_unrolled unrolled in (
      λ some. let r = exactly.0 some in broken_at c cubes formed formed_more r.0 r.1 r.2 r.3,
      λ broken. exactly.1 (claimed_by c cubes formed formed_more broken.0 broken.1),
    )
