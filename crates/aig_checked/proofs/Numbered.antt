-- Variables that are numbered on, section by section, and what a circuit in binary order is by them.
use Rattle.std.proofs.Common.{◌≡◌, ◌+◌, ◌*◌, ◌/◌, ◌<◌, ◌≤◌, ◌||◌, ◌∷◌, ◌++◌, ◌∙◌, ◌⊎◌, rules, ℕ, zero, suc, List, []}
use Rattle.std.proofs.Common.{true, false, eqb, length, map, refl, sym, ap, ap₂, arith, inl, inr, ⊎_elim, add-one}
use Rattle.std.proofs.Common.{subst, flat_map, map-id}
use Rattle.std.specs.List.{AllByRecursion, list_any, range_with_len, concat}
use Rattle.std.proofs.lemmas.Grind.{common_steps}
use Rattle.std.proofs.lemmas.Bool.{cases_lt}
use Rattle.std.proofs.lemmas.Bool.Decides.{Decides-eqb}
use Rattle.std.proofs.lemmas.Cmp.{nat_eq_equiv}
use Rattle.std.proofs.lemmas.List.FromFn.{length-range_with_len}
use Rattle.std.proofs.lemmas.Map.Made.{length-le_from_is_member}
use Rattle.aig_circuit.specs.declared.circuit.Gate.{Gate}
use Rattle.aig_circuit.specs.declared.circuit.Circuit.{Circuit}
use Rattle.aig_circuit.specs.Wellformed.{IsAmong, AreDistinct, IsKnown, defined_variables, IsRank, IsVariableUpTo}
use Rattle.aig_circuit.specs.Wellformed.{IsWithinLimits, HasGoodSymbols, IsWellFormed, literal_lists, operands}
use Rattle.aig_circuit.specs.Wellformed.{used_literals}
use Rattle.aig_circuit.specs.declared.circuit.Latch.{Latch}
use Rattle.aig_circuit.specs.Literal.{literal_of}
use Rattle.aig_circuit.specs.Form.{IsInForm, IsLiteralUpTo}
use Rattle.aig_circuit.proofs.Checking.{each, among_from_test, distinct_by_test, all_weaker, joined, joined_all}
use Rattle.aig_checked.specs.BinaryOrder.{AreNumberedGates, AreOrderedGates, IsInBinaryOrder, IsNumberedInOrder}
use Rattle.aig_checked.specs.Parts.Numbered.{AreFirstInOrder, AreNumbered, AreSectionsInOrder, AreSectionsNumbered}
use Rattle.aig_checked.specs.Parts.Numbered.{IsGateOf, IsNumberedGateOf}

-- numbers, and the next ones after them
pub ranges_joined : (a m n : ℕ) → range_with_len a m ++ range_with_len (a + m) n ≡ range_with_len a (m + n)
ranges_joined a zero n = ap₂ range_with_len (omega arith) (omega arith)
ranges_joined a (suc m) n =
    let next : a + suc m ≡ a + 1 + m = omega arith in
    let all : suc (m + n) ≡ suc m + n = omega arith in
    ap (λ (k : ℕ). a ∷ (range_with_len (a + 1) m ++ range_with_len k n)) next
    ∙ ap (λ (ns : List ℕ). a ∷ ns) (ranges_joined (a + 1) m n)
    ∙ ap (range_with_len a) all

-- one number more
range_last : (a n : ℕ) → range_with_len a (suc n) ≡ range_with_len a n ++ (a + n) ∷ []
range_last a zero = let e : a + 0 ≡ a = omega arith in rw e refl
range_last a (suc n) =
    let one : a + 1 + n ≡ a + suc n = omega arith in
    ap (λ (ns : List ℕ). a ∷ ns) (rw one at (range_last (a + 1) n))

pub range_more : (a n : ℕ) → range_with_len a (n + 1) ≡ range_with_len a n ++ (a + n) ∷ []
range_more a n = ap (range_with_len a) (add-one n) ∙ range_last a n

-- what holds of each of them
pub each_in_range : (P : ℕ → Type 0) (a n : ℕ) → ((x : ℕ) → a ≤ x → x < a + n → P x)
    → AllByRecursion P (range_with_len a n)
each_in_range P a zero p = tt
each_in_range P a (suc n) p =
    (p a (omega arith) (omega arith), each_in_range P (a + 1) n (λ x low high. p x (omega arith) (omega arith)))

pub among : (x a n : ℕ) → a ≤ x → x < a + n → IsAmong x (range_with_len a n)
among x a zero low high = absurd (omega arith)
among x a (suc n) low high = elim (cases_lt a x) [
  | inl above ↦ inr (among x (a + 1) n (omega arith) (omega arith))
  | inr here ↦ inl (omega arith)
]

not_below : (x a n : ℕ) → IsAmong x (range_with_len a n) → a ≤ x
not_below x a zero h = absurd h
not_below x a (suc n) h =
    ⊎_elim (λ (e : x ≡ a). omega arith)
    (λ (i : IsAmong x (range_with_len (a + 1) n)). let low : a + 1 ≤ x = not_below x (a + 1) n i in omega arith) h

pub distinct : (a n : ℕ) → AreDistinct (range_with_len a n)
distinct a zero = tt
distinct a (suc n) = (λ h. let low : a + 1 ≤ a = not_below a (a + 1) n h in omega arith, distinct (a + 1) n)

-- each literal up to the largest is over one of all variables, or constant
pub known : (m n : ℕ) → n ≤ 2 * m + 1 → IsKnown (range_with_len 1 m) n
known m n h = elim (cases_lt 0 (n / 2)) [
  | inl some ↦ inr (among (n / 2) 1 m (omega arith) (omega arith))
  | inr none ↦ inl (omega arith)
]

gates_define : (variable : ℕ) (gs : List Gate) → AreNumberedGates variable gs
    → map (λ (g : Gate). g.var) gs ≡ range_with_len variable (length gs)
gates_define variable [] o = refl
gates_define variable (g ∷ gs) o =
    ap₂ (λ (v : ℕ) (vs : List ℕ). v ∷ vs) o.0
    (gates_define (suc variable) gs o.3 ∙ ap (λ (k : ℕ). range_with_len k (length gs)) (sym (add-one variable)))

-- a circuit whose variables are numbered in order defines all of them
pub numbered_variables_are : (c : Circuit) → IsNumberedInOrder c → defined_variables c ≡ range_with_len 1 c.max_var
numbered_variables_are c o = grind (arith, common_steps, ranges_joined, gates_define)

-- and one in binary order is such
gates_numbered : (variable : ℕ) (gs : List Gate) → AreOrderedGates variable gs → AreNumberedGates variable gs
gates_numbered variable [] o = tt
gates_numbered variable (g ∷ gs) o = (o.0, o.1, omega (arith, o.1, o.2), gates_numbered (suc variable) gs o.3)

pub is_numbered : (c : Circuit) → IsInBinaryOrder c → IsNumberedInOrder c
is_numbered c o = search (rules, gates_numbered)

pub variables_are : (c : Circuit) → IsInBinaryOrder c → defined_variables c ≡ range_with_len 1 c.max_var
variables_are c o = numbered_variables_are c (is_numbered c o)

-- a test finds what stands in a list
test_from_among : (x : ℕ) (xs : List ℕ) → IsAmong x xs → list_any (eqb x) xs ≡ true
test_from_among x [] a = absurd a
test_from_among x (y ∷ ys) a =
    ⊎_elim (λ (e : x ≡ y). rw ((Decides-eqb x y).1 e) refl)
    (λ (i : IsAmong x ys). ap (λ b. eqb x y || b) (test_from_among x ys i)
    ∙ elim (eqb x y) as (λ b. (b || true) ≡ true) [ true ↦ refl | false ↦ refl ]) a

-- a list that has all numbers below n has n numbers at least
pub at_least_below : (n : ℕ) (xs : List ℕ) → ((x : ℕ) → x < n → IsAmong x xs) → n ≤ length xs
at_least_below n xs all =
    let numbers : List ℕ = range_with_len 0 n in
    let below : (q : ℕ) → IsAmong q numbers → q < n =
    each (λ q. q < n) numbers (each_in_range (λ q. q < n) 0 n (λ q low high. omega (arith, high))) in
    let fits : length numbers ≤ length xs =
    length-le_from_is_member nat_eq_equiv numbers xs (distinct_by_test numbers (distinct 0 n))
    (λ q h. test_from_among q xs (all q (below q (among_from_test q numbers h)))) in
    omega (arith, fits, length-range_with_len 0 n)

-- Sections whose variables are numbered on, and binary order.

-- entries whose variables are numbered on
module _ {X : Type 0} (f : X → ℕ) where
  numbered_to : (n : ℕ) (xs : List X) → AreNumbered (λ v x. f x ≡ v) n xs → map f xs ≡ range_with_len n (length xs)
  numbered_to n [] h = refl
  numbered_to n (x ∷ xs) h =
      ap₂ (λ (v : ℕ) (vs : List ℕ). v ∷ vs) h.0
      (numbered_to (suc n) xs h.1 ∙ ap (λ m. range_with_len m (length xs)) (sym (add-one n)))

  numbered_from : (n : ℕ) (xs : List X) → map f xs ≡ range_with_len n (length xs) → AreNumbered (λ v x. f x ≡ v) n xs
  numbered_from n [] h = tt
  numbered_from n (x ∷ xs) h =
      let head : f x ≡ n = cc in
      let tail : map f xs ≡ range_with_len (n + 1) (length xs) = cc in
      (head, numbered_from (suc n) xs (tail ∙ ap (λ m. range_with_len m (length xs)) (add-one n)))

gates_to : (n : ℕ) (gs : List Gate) → AreNumbered IsGateOf n gs → AreOrderedGates n gs
gates_to n [] h = tt
gates_to n (g ∷ gs) h = (h.0.0, h.0.1, h.0.2, gates_to (suc n) gs h.1)

gates_from : (n : ℕ) (gs : List Gate) → AreOrderedGates n gs → AreNumbered IsGateOf n gs
gates_from n [] h = tt
gates_from n (g ∷ gs) h = ((h.0, h.1, h.2), gates_from (suc n) gs h.3)

numbered_gates_to : (n : ℕ) (gs : List Gate) → AreNumbered IsNumberedGateOf n gs → AreNumberedGates n gs
numbered_gates_to n [] h = tt
numbered_gates_to n (g ∷ gs) h = (h.0.0, h.0.1, h.0.2, numbered_gates_to (suc n) gs h.1)

numbered_gates_from : (n : ℕ) (gs : List Gate) → AreNumberedGates n gs → AreNumbered IsNumberedGateOf n gs
numbered_gates_from n [] h = tt
numbered_gates_from n (g ∷ gs) h = ((h.0, h.1, h.2), numbered_gates_from (suc n) gs h.3)

inputs_to : (c : Circuit) → AreFirstInOrder c → c.inputs ≡ range_with_len 1 (length c.inputs)
inputs_to c h = sym (map-id c.inputs) ∙ numbered_to (λ (x : ℕ). x) 1 c.inputs h.inputs

latches_to : (c : Circuit) → AreFirstInOrder c
    → map (λ (l : Latch). l.var) c.latches ≡ range_with_len (1 + length c.inputs) (length c.latches)
latches_to c h = numbered_to (λ (l : Latch). l.var) (1 + length c.inputs) c.latches h.latches

first_from : (c : Circuit) → c.inputs ≡ range_with_len 1 (length c.inputs)
    → map (λ (l : Latch). l.var) c.latches ≡ range_with_len (1 + length c.inputs) (length c.latches)
    → c.max_var ≡ length c.inputs + length c.latches + length c.gates → AreFirstInOrder c
first_from c inputs latches all = record {
  all = omega arith;
  inputs = numbered_from (λ (x : ℕ). x) 1 c.inputs (map-id c.inputs ∙ inputs);
  latches = numbered_from (λ (l : Latch). l.var) (1 + length c.inputs) c.latches latches;
}

pub by_sections : (c : Circuit) → AreSectionsInOrder c → IsInBinaryOrder c
by_sections c h = search (rules, inputs_to, latches_to, gates_to)

pub all_sections : (c : Circuit) → IsInBinaryOrder c → AreSectionsInOrder c
all_sections c h = search (rules, first_from, gates_from)

pub by_numbered : (c : Circuit) → AreSectionsNumbered c → IsNumberedInOrder c
by_numbered c h = search (rules, inputs_to, latches_to, numbered_gates_to)

pub all_numbered : (c : Circuit) → IsNumberedInOrder c → AreSectionsNumbered c
all_numbered c h = search (rules, first_from, numbered_gates_from)

-- A circuit whose variables are numbered in order is well formed, where its counts, symbols and literals are right.
abbrev IsOverLower : Gate → Type 0
IsOverLower g = (g.left < literal_of g.var) × (g.right < literal_of g.var)

all_over_lower : (variable : ℕ) (gs : List Gate) → AreNumberedGates variable gs → AllByRecursion IsOverLower gs
all_over_lower variable [] o = tt
all_over_lower variable (g ∷ gs) o = ((o.1, o.2), all_over_lower (suc variable) gs o.3)

lower : (v left right w : ℕ) → left < 2 * v → right < 2 * v → (w ≡ left / 2) ⊎ ((w ≡ right / 2) ⊎ ⊥) → w < v
lower v left right w l r h =
    ⊎_elim (λ (e : w ≡ left / 2). omega arith)
    (λ (i : (w ≡ right / 2) ⊎ ⊥). ⊎_elim (λ (e : w ≡ right / 2). omega arith) (λ (n : ⊥). absurd n) i) h

-- so the variable is a rank
variable_ranks : (variable : ℕ) (gs : List Gate) → AreNumberedGates variable gs → IsRank (λ v. v) gs
variable_ranks variable gs o = grind (arith, common_steps, all_over_lower, lower)

pub numbered_well_formed : (c : Circuit) → IsNumberedInOrder c
    → AllByRecursion (IsLiteralUpTo c.max_var) (used_literals c) → IsWithinLimits c → HasGoodSymbols c → IsWellFormed c
numbered_well_formed c o literals limits symbols =
    let m : ℕ = c.max_var in
    let vars = numbered_variables_are c o in
    record {
      limits = limits;
      in_range = subst (λ (vs : List ℕ). AllByRecursion (IsVariableUpTo m) vs) (sym vars)
          (each_in_range (IsVariableUpTo m) 1 m (λ x low high. (low, omega arith)));
      once = subst AreDistinct (sym vars) (distinct 1 m);
      known = subst (λ (vs : List ℕ). AllByRecursion (IsKnown vs) (used_literals c)) (sym vars)
          (all_weaker (IsLiteralUpTo m) (IsKnown (range_with_len 1 m)) (known m) (used_literals c) literals);
      symbols = symbols;
      ranked = (λ v. v, variable_ranks (1 + length c.inputs + length c.latches) c.gates o.gates);
    }

pub form_well_formed : (c : Circuit) → IsInForm c → IsNumberedInOrder c → IsWellFormed c
form_well_formed c form o = numbered_well_formed c o form.literals form.limits form.symbols

operands_up_to : (variable m : ℕ) (gs : List Gate) → AreNumberedGates variable gs → variable + length gs ≤ m + 1
    → AllByRecursion (IsLiteralUpTo m) (flat_map operands gs)
operands_up_to variable m [] o fits = tt
operands_up_to variable m (g ∷ gs) o fits =
    let var : g.var ≡ variable = o.0 in
    let left : g.left < 2 * g.var = o.1 in
    let right : g.right < 2 * g.var = o.2 in
    let long : variable + suc (length gs) ≤ m + 1 = fits in
    (omega arith, (omega arith, operands_up_to (suc variable) m gs o.3 (omega arith)))

-- what the numbered lines tell may stand in the circuit
abbrev pub HasLiteralsUpTo : Circuit → Type 0
HasLiteralsUpTo c = AllByRecursion (IsLiteralUpTo c.max_var) (map (λ (l : Latch). l.next) c.latches)
    × AllByRecursion (AllByRecursion (IsLiteralUpTo c.max_var)) (literal_lists c)

pub all_up_to : (c : Circuit) → IsNumberedInOrder c → HasLiteralsUpTo c
    → AllByRecursion (IsLiteralUpTo c.max_var) (used_literals c)
all_up_to c o literals =
    let all : c.max_var ≡ length c.inputs + length c.latches + length c.gates = o.all in
    joined (IsLiteralUpTo c.max_var) (map (λ (l : Latch). l.next) c.latches ++ concat (literal_lists c))
    (flat_map operands c.gates)
    (joined (IsLiteralUpTo c.max_var) (map (λ (l : Latch). l.next) c.latches) (concat (literal_lists c)) literals.0
    (joined_all (IsLiteralUpTo c.max_var) (literal_lists c) literals.1))
    (operands_up_to (1 + length c.inputs + length c.latches) c.max_var c.gates o.gates (omega arith))

pub well_formed : (c : Circuit) → IsInBinaryOrder c → HasLiteralsUpTo c → IsWithinLimits c → HasGoodSymbols c
    → IsWellFormed c
well_formed c o literals limits symbols =
    numbered_well_formed c (is_numbered c o) (all_up_to c (is_numbered c o) literals) limits symbols
