-- A run that reaches a bad state sets one of the unrolled circuit: with 0 for each x, and zeros for the steps after.
use Rattle.std.proofs.Common.{◌≡◌, ◌+◌, ◌*◌, ◌<◌, ◌++◌, ◌||◌, ◌∙◌, ℕ, zero, suc, List, [], ◌∷◌, Bool, true, false}
use Rattle.std.proofs.Common.{length, map}
use Rattle.std.proofs.Common.{ap, arith, get_or, refl, replicate, subst, suc-mul, sym}
use Rattle.std.specs.List.{All, AllByRecursion, AllZip, flat_map, list_any}
use Rattle.std.proofs.lemmas.List.{get_or-append-add, length-map, length-replicate}
use Rattle.std.proofs.lemmas.List.Elements.{All-head, All-tail}
use Rattle.aig_circuit.specs.declared.circuit.Circuit.{Circuit}
use Rattle.aig_circuit.specs.declared.circuit.Reset.{Reset}
use Rattle.aig_circuit.specs.declared.circuit.Reset.TheVariants as resets
use Rattle.aig_circuit.specs.declared.value.Val.{Val}
use Rattle.aig_circuit.specs.declared.value.Val.TheVariants.{Zero, One, X}
use Rattle.aig_circuit.specs.Values.{value_and}
use Rattle.aig_circuit.specs.Wellformed.{IsWellFormed}
use Rattle.aig_circuit.proofs.Checking.{joined}
use Rattle.aig_meaning.specs.Completion.{RowStays, Stays}
use Rattle.aig_meaning.specs.Meaning.{IsStepAssignment, Row, literal_value}
use Rattle.aig_meaning.specs.Trace.{Follow, MayStartAt}
use Rattle.aig_meaning.proofs.Related.{AreDefined}
use Rattle.aig_meaning.proofs.Traces.{bad_length, row_stays}
use Rattle.aig_cnf.specs.Clauses.{is_true, truth}
use Rattle.aig_cnf.proofs.Existing.{IsSure, rounded, same_known, same_truth}
use Rattle.aig_cnf.proofs.Truths.{truth_literal}
use Rattle.aig_witness.specs.Witness.{IsHeld, IsBad}
use Rattle.aig_unroll.specs.SideBySide.{and_all, bad_side_by_side, uninitialised_values}

-- 0 where it is not known
abbrev pub sure : Val → Val
sure Zero = Zero
sure One = One
sure X = Zero

is_sure : (v : Val) → IsSure (sure v)
is_sure Zero = tt
is_sure One = tt
is_sure X = tt

pub are_sure : (vs : List Val) → AllByRecursion IsSure (map sure vs)
are_sure [] = tt
are_sure (v ∷ vs) = (is_sure v, are_sure vs)

one_stays : (v : Val) → Stays v (sure v)
one_stays Zero = refl
one_stays One = refl
one_stays X = tt

pub all_stay : (vs : List Val) → AllZip Stays vs (map sure vs)
all_stay [] = tt
all_stay (v ∷ vs) = (one_stays v, all_stay vs)

one_starts : (r : Reset) (v : Val) → MayStartAt r v → MayStartAt r (sure v)
one_starts resets.Zero v is = ap sure is
one_starts resets.One v is = ap sure is
one_starts resets.Uninit v is = tt

pub sure_starts : (rs : List Reset) (vs : List Val) → AllZip MayStartAt rs vs → AllZip MayStartAt rs (map sure vs)
sure_starts [] [] start = tt
sure_starts [] (v ∷ vs) start = absurd start
sure_starts (r ∷ rs) [] start = absurd start
sure_starts (r ∷ rs) (v ∷ vs) start = (one_starts r v start.0, sure_starts rs vs start.1)

-- the first so many steps, and zeros after them
abbrev pub steps_to : ℕ → ℕ → List (List Val) → List (List Val)
steps_to inputs zero vs = []
steps_to inputs (suc n) [] = replicate inputs Zero ∷ steps_to inputs n []
steps_to inputs (suc n) (v ∷ vs) = map sure v ∷ steps_to inputs n vs

pub steps_many : (inputs n : ℕ) (vs : List (List Val)) → length (steps_to inputs n vs) ≡ n
steps_many inputs zero vs = refl
steps_many inputs (suc n) [] = ap suc (steps_many inputs n [])
steps_many inputs (suc n) (v ∷ vs) = ap suc (steps_many inputs n vs)

abbrev AreLong : ℕ → List (List Val) → Type 0
AreLong inputs vs = AllByRecursion (λ (v : List Val). length v ≡ inputs) vs

pub steps_long : (inputs n : ℕ) (vs : List (List Val)) → AreLong inputs vs → AreLong inputs (steps_to inputs n vs)
steps_long inputs zero vs long = tt
steps_long inputs (suc n) [] long = (length-replicate inputs Zero, steps_long inputs n [] long)
steps_long inputs (suc n) (v ∷ vs) long = (length-map v sure ∙ long.0, steps_long inputs n vs long.1)

zeros_sure : (n : ℕ) → AllByRecursion IsSure (replicate n Zero)
zeros_sure zero = tt
zeros_sure (suc n) = (tt, zeros_sure n)

steps_sure : (inputs n : ℕ) (vs : List (List Val))
    → AllByRecursion IsSure (flat_map (λ (v : List Val). v) (steps_to inputs n vs))
steps_sure inputs zero vs = tt
steps_sure inputs (suc n) [] =
    joined IsSure (replicate inputs Zero) (flat_map (λ (v : List Val). v) (steps_to inputs n [])) (zeros_sure inputs)
    (steps_sure inputs n [])
steps_sure inputs (suc n) (v ∷ vs) =
    joined IsSure (map sure v) (flat_map (λ (w : List Val). w) (steps_to inputs n vs)) (are_sure v)
    (steps_sure inputs n vs)

first_sure : (rs : List Reset) (vs : List Val) → AllByRecursion IsSure (uninitialised_values rs (map sure vs))
first_sure [] vs = tt
first_sure (r ∷ rs) [] = tt
first_sure (resets.Zero ∷ rs) (v ∷ vs) = first_sure rs vs
first_sure (resets.One ∷ rs) (v ∷ vs) = first_sure rs vs
first_sure (resets.Uninit ∷ rs) (v ∷ vs) = (is_sure v, first_sure rs vs)

pub inputs_sure : (rs : List Reset) (first : List Val) (inputs n : ℕ) (vs : List (List Val))
    → AllByRecursion IsSure
    (uninitialised_values rs (map sure first) ++ flat_map (λ (v : List Val). v) (steps_to inputs n vs))
inputs_sure rs first inputs n vs =
    joined IsSure (uninitialised_values rs (map sure first)) (flat_map (λ (v : List Val). v) (steps_to inputs n vs))
    (first_sure rs first) (steps_sure inputs n vs)

-- where all are 1, so are those that stay, and their `and`
ones_stay : (vs ws : List Val) → All (λ (v : Val). v ≡ One) vs → AllZip Stays vs ws → and_all One ws ≡ One
ones_stay [] [] ones stay = refl
ones_stay [] (w ∷ ws) ones stay = absurd stay
ones_stay (v ∷ vs) [] ones stay = absurd stay
ones_stay (v ∷ vs) (w ∷ ws) ones stay =
    let here : w ≡ One = subst (λ (x : Val). Stays x w) (All-head (λ (x : Val). x ≡ One) v vs ones) stay.0 in
    ap (λ (x : Val). and_all (value_and One x) ws) here
    ∙ ones_stay vs ws (All-tail (λ (x : Val). x ≡ One) v vs ones) stay.1

bit_stays : (vs ws : List Val) (i : ℕ) → AllZip Stays vs ws → get_or vs i Zero ≡ One → get_or ws i Zero ≡ One
bit_stays [] ws i stay is = cc
bit_stays (v ∷ vs) [] i stay is = absurd stay
bit_stays (v ∷ vs) (w ∷ ws) zero stay is = subst (λ (x : Val). Stays x w) is stay.0
bit_stays (v ∷ vs) (w ∷ ws) (suc i) stay is = bit_stays vs ws i stay.1 is

one_here : (xs ys : List Val) (i : ℕ) → get_or xs i Zero ≡ One → get_or (map (value_and One) xs ++ ys) i Zero ≡ One
one_here [] ys i is = cc
one_here (x ∷ xs) ys zero is = is
one_here (x ∷ xs) ys (suc i) is = one_here xs ys i is

module _ (c : Circuit) (formed : IsWellFormed c) (property : ℕ) where
  -- a row that is followed with 0 for each x
  stays : (state state_too : List Val) (v : List Val) (vs ws : List (List Val)) (r s : Row) (rs ss : List Row)
      → AllZip Stays state state_too → Follow c state (v ∷ vs) (r ∷ rs)
      → Follow c state_too (map sure v ∷ ws) (s ∷ ss) → RowStays r s
  stays state state_too v vs ws r s rs ss stay follow follow_too =
      row_stays c formed r s (rw (follow.0, follow_too.0) stay) (rw (follow.1, follow_too.1) (all_stay v)) follow.2
      follow_too.2

  pub bad_set : (state state_too : List Val) (n : ℕ) (steps : List (List Val)) (before : List Row) (row : Row)
      (behind others : List Row) → AllZip Stays state state_too → Follow c state steps (before ++ row ∷ behind)
      → Follow c state_too (steps_to (length c.inputs) n steps) others → length before < n
      → All IsHeld before → IsHeld row → IsBad property row
      → get_or (bad_side_by_side One others) (length before * length c.bad + property) Zero ≡ One
  bad_set state state_too zero steps before row behind others stay follow follow_too low held holds is =
      absurd (omega (arith, low))
  bad_set state state_too (suc n) [] [] row behind others stay follow follow_too low held holds is = absurd follow
  bad_set state state_too (suc n) [] (r ∷ rs) row behind others stay follow follow_too low held holds is =
      absurd follow
  bad_set state state_too (suc n) (v ∷ vs) before row behind [] stay follow follow_too low held holds is =
      absurd follow_too
  bad_set state state_too (suc n) (v ∷ vs) [] row behind (s ∷ ss) stay follow follow_too low held holds is =
      let same =
      stays state state_too v vs (steps_to (length c.inputs) n vs) row s behind ss stay follow follow_too in
      let here : 0 * length c.bad + property ≡ property = omega arith in
      ap (λ i. get_or (bad_side_by_side One (s ∷ ss)) i Zero) here
      ∙ ap (λ (h : Val). get_or (map (value_and h) s.bad ++ bad_side_by_side h ss) property Zero)
      (ones_stay row.constraints s.constraints holds same.constraints)
      ∙ one_here s.bad (bad_side_by_side One ss) property (bit_stays row.bad s.bad property same.bad is)
  bad_set state state_too (suc n) (v ∷ vs) (r ∷ rs) row behind (s ∷ ss) stay follow follow_too low held holds is =
      let same =
      stays state state_too v vs (steps_to (length c.inputs) n vs) r s (rs ++ row ∷ behind) ss stay follow
      follow_too in
      let front = map (value_and One) s.bad in
      let long : length front ≡ length c.bad =
      length-map s.bad (value_and One) ∙ bad_length c s follow_too.2 in
      let place = length rs * length c.bad + property in
      let there : length (r ∷ rs) * length c.bad + property ≡ length front + place =
      omega (arith, long, suc-mul (length rs) (length c.bad)) in
      ap (λ i. get_or (bad_side_by_side One (s ∷ ss)) i Zero) there
      ∙ ap (λ (h : Val). get_or (map (value_and h) s.bad ++ bad_side_by_side h ss) (length front + place) Zero)
      (ones_stay r.constraints s.constraints (All-head IsHeld r rs held) same.constraints)
      ∙ get_or-append-add front (bad_side_by_side One ss) place Zero
      ∙ bad_set r.next s.next n vs rs row behind ss same.next follow.3 follow_too.3 (omega (arith, low))
      (All-tail IsHeld r rs held) holds is

or_true : (b : Bool) → (b || true) ≡ true
or_true true = refl
or_true false = refl

-- a literal whose value is 1 is true
module _ (d : Circuit) (formed : IsWellFormed d) (state given : List Val) (b : ℕ → Val)
    (is : IsStepAssignment d state given b) (sure_state : AllByRecursion IsSure state)
    (sure_given : AllByRecursion IsSure given) where
  abbrev a : ℕ → Bool
  a = rounded d formed state given b is sure_state sure_given

  pub some_true : (ls : List ℕ) → AreDefined d ls → (i : ℕ) → get_or (map (literal_value b) ls) i Zero ≡ One
      → list_any (is_true a) ls ≡ true
  some_true [] known i one = cc
  some_true (l ∷ ls) known zero one =
      let here : truth (is_true a l) ≡ One =
      sym (truth_literal a l) ∙ same_known d formed state given b is sure_state sure_given l known.0 ∙ one in
      ap (λ t. t || list_any (is_true a) ls) (same_truth (is_true a l) true here)
  some_true (l ∷ ls) known (suc i) one =
      ap (λ t. is_true a l || t) (some_true ls known.1 i one) ∙ or_true (is_true a l)
