-- The lasso that is taken out of a witness, and its lines.
use Rattle.std.proofs.Common.{◌≡◌, ◌+◌, ◌-◌, ◌<◌, ◌≤◌, ◌++◌, ◌∙◌, ℕ, zero, suc, List, [], ◌∷◌, add-one, ap, ap₂, arith}
use Rattle.std.proofs.Common.{append_assoc, codes, cond, decimal, drop, drop-cons, false, get_or, length, map, nat_lt, refl, slice_index_or, subst}
use Rattle.std.proofs.Common.{sym, take}
use Rattle.std.specs.List.{AllByRecursion, flat_map}
use Rattle.std.proofs.lemmas.Bool.{le-ltb, lt-ltb}
use Rattle.std.proofs.lemmas.List.{length-append, length-map, length-take-le, map-append}
use Rattle.aig_circuit.specs.declared.circuit.Circuit.{Circuit}
use Rattle.aig_circuit.specs.declared.circuit.Gate.{Gate}
use Rattle.aig_circuit.specs.declared.circuit.Latch.{Latch}
use Rattle.aig_circuit.specs.declared.value.Val.{Val}
use Rattle.aig_circuit.specs.Wellformed.{IsVariableUpTo, IsWellFormed}
use Rattle.aig_io.specs.Output.{Appended, Out}
use Rattle.aig_io.proofs.Puts.{put_twice}
use Rattle.aig_lasso.specs.Goals.{with_goals}
use Rattle.aig_step.specs.TraceText.{character_of, values_text}
use Rattle.aig_witness.specs.Witness.{Claim}
use Rattle.aig_replay.specs.Parts.{AreAppended}
use Rattle.aig_replay.specs.WitnessLines.{lasso_text, step_line}
use Rattle.aig_replay.proofs.WitnessPut.{line_more}
use Rattle.aig_live.specs.FoundLasso.{last_input, lasso_within, latches_up_to}
use Rattle.aig_live.specs.Laws.{LassosAreInWitnesses, live}
use Rattle.aig_live.specs.WithLoop.{new_latches, save}

-- ---- the latches and inputs of the model

front_of : (P : ℕ → Type 0) (xs ys : List ℕ) → AllByRecursion P (xs ++ ys) → AllByRecursion P xs
front_of P [] ys all = tt
front_of P (x ∷ xs) ys all = (all.0, front_of P xs ys all.1)

back_of : (P : ℕ → Type 0) (xs ys : List ℕ) → AllByRecursion P (xs ++ ys) → AllByRecursion P ys
back_of P [] ys all = all
back_of P (x ∷ xs) ys all = back_of P xs ys all.1

up_to : (v top : ℕ) (front back : List Latch) → top ≤ v
    → AllByRecursion (IsVariableUpTo top) (map (λ (l : Latch). l.var) front)
    → latches_up_to v (front ++ back) ≡ length front + latches_up_to v back
up_to v top [] back low all = omega arith
up_to v top (l ∷ ls) back low all =
    let test : nat_lt v l.var ≡ false = le-ltb v l.var (omega (arith, low, all.0.1)) in
    ap (λ b. cond b 0 (latches_up_to v (ls ++ back) + 1)) test
    ∙ omega (arith, up_to v top ls back low all.1)

module _ (v : ℕ) (ls : List Latch) (place : ℕ) (l : Latch) (below : place < length ls) (is : l ≡ get_or ls place l) where
  next_latch : drop place ls ≡ l ∷ drop (place + 1) ls
  next_latch =
      drop-cons ls place l below
      ∙ ap₂ (λ (k : Latch) (ks : List Latch). k ∷ ks) (sym is) (ap (λ (n : ℕ). drop n ls) (sym (add-one place)))

  pub stops_there : v < l.var → latches_up_to v (drop place ls) ≡ 0
  stops_there less =
      ap (latches_up_to v) next_latch
      ∙ ap (λ b. cond b 0 (latches_up_to v (drop (place + 1) ls) + 1)) (lt-ltb v l.var less)

  pub goes_on : l.var ≤ v → latches_up_to v (drop place ls) ≡ latches_up_to v (drop (place + 1) ls) + 1
  goes_on low =
      ap (latches_up_to v) next_latch
      ∙ ap (λ b. cond b 0 (latches_up_to v (drop (place + 1) ls) + 1)) (le-ltb v l.var low)

pub none_left : (v place : ℕ) (ls : List Latch) → length ls ≤ place → latches_up_to v (drop place ls) ≡ 0
none_left v zero [] high = refl
none_left v (suc place) [] high = refl
none_left v zero (l ∷ ls) high = absurd (omega (arith, high))
none_left v (suc place) (l ∷ ls) high = none_left v place ls (omega (arith, high))

last_of : (xs : List ℕ) (x : ℕ) → slice_index_or (xs ++ x ∷ []) (length xs) 0 ≡ x
last_of [] x = refl
last_of (y ∷ ys) x = last_of ys x

module _ (c : Circuit) (property : ℕ) (good : IsWellFormed c) where
  as_many : length (live property c).inputs - 1 ≡ length c.inputs
  as_many = omega (arith, length-append c.inputs (save (with_goals property c) ∷ []))

  last_is : last_input (live property c) ≡ c.max_var + 1
  last_is =
      ap (λ (n : ℕ). slice_index_or (live property c).inputs n 0) as_many ∙ last_of c.inputs (c.max_var + 1)

  low : AllByRecursion (IsVariableUpTo c.max_var) (map (λ (l : Latch). l.var) c.latches)
  low =
      back_of (IsVariableUpTo c.max_var) c.inputs (map (λ (l : Latch). l.var) c.latches)
      (front_of (IsVariableUpTo c.max_var) (c.inputs ++ map (λ (l : Latch). l.var) c.latches)
      (map (λ (g : Gate). g.var) c.gates) good.in_range)

  none_new : latches_up_to (c.max_var + 1) (new_latches (with_goals property c)) ≡ 0
  none_new = rw (lt-ltb (c.max_var + 1) (c.max_var + 2) (omega arith)) refl

  own_latches : latches_up_to (last_input (live property c)) (live property c).latches ≡ length c.latches
  own_latches =
      ap (λ (v : ℕ). latches_up_to v (live property c).latches) last_is
      ∙ up_to (c.max_var + 1) c.max_var c.latches (new_latches (with_goals property c)) (omega arith) low
      ∙ omega (arith, none_new)

pub lassos_are_in_witnesses : LassosAreInWitnesses
lassos_are_in_witnesses c property claim step good long =
    let before : length claim.steps - 1 ≡ step = omega (arith, long) in
    ap₂ (λ (latches inputs : ℕ). lasso_within property latches inputs claim) (own_latches c property good)
    (as_many c property good)
    ∙ ap
    (λ (n : ℕ). record {
      property = property;
      first = take (length c.latches) claim.first;
      steps = map (take (length c.inputs)) (take n claim.steps);
    }) before

-- ---- its lines

-- the first so many characters, and no more than there are
pub first_characters_of : (n k : ℕ) (vs : List Val) → k ≤ n → k ≤ length vs → (k < n → length vs ≤ k)
    → take k (values_text vs) ≡ values_text (take n vs)
first_characters_of zero zero vs low fits all = refl
first_characters_of zero (suc k) vs low fits all = absurd (omega (arith, low))
first_characters_of (suc n) zero [] low fits all = refl
first_characters_of (suc n) zero (v ∷ vs) low fits all = absurd (omega (arith, all (omega arith)))
first_characters_of (suc n) (suc k) [] low fits all = refl
first_characters_of (suc n) (suc k) (v ∷ vs) low fits all =
    ap (λ (text : List ℕ). character_of v ∷ text)
    (first_characters_of n k vs (omega (arith, low)) (omega (arith, fits))
    (λ less. let more = all (omega (arith, less)) in omega (arith, more)))

but_last : (done left : List (List Val)) → length left ≤ 1 → (length left ≡ 0 → length done ≡ 0)
    → done ≡ take (length (done ++ left) - 1) (done ++ left)
but_last [] [] few none = refl
but_last [] (v ∷ []) few none = refl
but_last [] (v ∷ w ∷ vs) few none = absurd (omega (arith, few))
but_last (d ∷ ds) [] few none = absurd (omega (arith, none refl))
but_last (d ∷ ds) (v ∷ vs) few none =
    let rest = but_last ds (v ∷ vs) few (λ (no : suc (length vs) ≡ 0). absurd (omega (arith, no))) in
    let size : suc (length (ds ++ v ∷ vs) - 1) ≡ suc (length (ds ++ v ∷ vs)) - 1 =
    omega (arith, length-append ds (v ∷ vs)) in
    ap (λ (xs : List (List Val)). d ∷ xs) rest ∙ ap (λ (n : ℕ). take n (d ∷ ds ++ v ∷ vs)) size

pub all_but_last : (inputs count step : ℕ) (rest : List ℕ) (all done : List (List Val)) → step ≡ count - 1
    → length all ≡ count → AreAppended inputs count step rest all done → done ≡ take (length all - 1) all
all_but_last inputs count step rest all done last many is =
    let size = ap length is.parted ∙ length-append done is.left in
    but_last done is.left (omega (arith, is.many, last)) (λ none. omega (arith, is.many, last, size, many, none))
    ∙ ap (λ (xs : List (List Val)). take (length xs - 1) xs) (sym is.parted)

module _ {W : Type 0} where
  pub shown_line : (a b c : Out W) (shown : ℕ) (done : List (List Val)) (given : List Val) (text : List ℕ)
      → text ≡ values_text (take shown given) → Appended a b (flat_map step_line (map (take shown) done))
      → Appended b c (text ++ codes "\n")
      → Appended a c (flat_map step_line (map (take shown) (done ++ given ∷ [])))
  shown_line a b c shown done given text is p q =
      subst (λ (vs : List (List Val)). Appended a c (flat_map step_line vs))
      (sym (map-append (take shown) done (given ∷ [])))
      (line_more a b c (map (take shown) done) (take shown given) text is p q)

  pub lasso_put : (a b c d e f h : Out W) (claim : Claim) (first : List ℕ) → first ≡ values_text claim.first
      → Appended a b (codes "1\nj") → Appended b c (decimal claim.property) → Appended c d (codes "\n")
      → Appended d e (first ++ codes "\n") → Appended e f (flat_map step_line claim.steps) → Appended f h (codes ".\n")
      → Appended a h (lasso_text claim)
  lasso_put a b c d e f h claim first same p q r s t u =
      let state = values_text claim.first in
      let steps = flat_map step_line claim.steps in
      let last : Appended e h (steps ++ codes ".\n") = put_twice e f h steps (codes ".\n") t u in
      let line : Appended d e (state ++ codes "\n") = subst (λ (x : List ℕ). Appended d e (x ++ codes "\n")) same s in
      let third : Appended d h (state ++ (codes "\n" ++ (steps ++ codes ".\n"))) =
      subst (λ (x : List ℕ). Appended d h x) (append_assoc state (codes "\n") (steps ++ codes ".\n"))
      (put_twice d e h (state ++ codes "\n") (steps ++ codes ".\n") line last) in
      put_twice a b h (codes "1\nj") _ p
      (put_twice b c h (decimal claim.property) _ q (put_twice c d h (codes "\n") _ r third))

-- what is shown of the characters of a step
pub shown_text : (inputs shown width : ℕ) (text : List ℕ) (given : List Val) → length given ≡ inputs
    → width ≤ shown → width ≤ inputs → (width < shown → inputs ≤ width) → text ≡ values_text given
    → take width text ≡ values_text (take shown given)
shown_text inputs shown width text given long low fits all is =
    ap (take width) is
    ∙ first_characters_of shown width given low (omega (arith, long, fits))
    (λ less. let high = all less in omega (arith, long, high))

pub given_long : (inputs : ℕ) (rest : List ℕ) (given : List Val) → inputs ≤ length rest
    → take inputs rest ≡ values_text given → length given ≡ inputs
given_long inputs rest given room is =
    omega (arith, length-map given character_of, ap length is, length-take-le inputs rest room)
