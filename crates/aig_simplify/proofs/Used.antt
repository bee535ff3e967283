-- Only what a circuit shows and what gates need that are needed is marked, so each gate that is left is used.
use Rattle.std.proofs.Common.{◌≡◌, ◌+◌, ◌<◌, ◌∷◌, ◌++◌, ◌∙◌, ℕ, zero, suc, List, [], length, get_or, map, set, Bool}
use Rattle.std.proofs.Common.{true, refl, sym, ap, subst, inl, inr, ⊎_elim, arith}
use Rattle.std.specs.List.{Contains, concat, filter, flat_map}
use Rattle.std.proofs.lemmas.Bool.{cases_eq, false≢true}
use Rattle.std.proofs.lemmas.List.{get_or_default, map-append}
use Rattle.std.proofs.lemmas.Simd.{map-map}
use Rattle.aig_circuit.specs.declared.circuit.Latch.{Latch}
use Rattle.aig_circuit.specs.declared.circuit.Gate.{Gate}
use Rattle.aig_circuit.specs.declared.circuit.Circuit.{Circuit}
use Rattle.aig_circuit.specs.Literal.{variable_of}
use Rattle.aig_circuit.specs.Wellformed.{IsAmong, literal_lists, operands}
use Rattle.aig_checked.specs.BinaryOrder.{AreOrderedGates}
use Rattle.aig_topo.proofs.Ordering.Counted.{among_first}
use Rattle.aig_topo.proofs.Ordering.Cyclic.{among_last}
use Rattle.aig_meaning.specs.Meaning.{next_literals}
use Rattle.aig_simplify.specs.Swept.{UsesEachGate}
use Rattle.aig_simplify.specs.Parts.Folding.{gate_at}
use Rattle.aig_simplify.specs.Parts.Sweeping.{AreUnmarked, IsNeedOfNeeded, KeepMarks, OnlyMark, OnlyMarkNeeds}
use Rattle.aig_simplify.specs.Parts.Sweeping.{OnlyNeeded, is_marked, shown_literals}
use Rattle.aig_simplify.proofs.Marking.{keeps_marked, unmarked_still}
use Rattle.aig_simplify.proofs.Stepping.{ordered_at}
use Rattle.aig_simplify.proofs.Sweeping.{kept_contained, left_passes, with_gates}

-- what a list has is among the numbers of what it has
pub among_here : {T : Type 0} (f : T → ℕ) (xs : List T) (i : ℕ) (d : T) → i < length xs
    → IsAmong (f (get_or xs i d)) (map f xs)
among_here f [] i d below = absurd (omega (arith, below))
among_here f (x ∷ xs) zero d below = inl refl
among_here f (x ∷ xs) (suc i) d below = inr (among_here f xs i d (omega (arith, below)))

pub mapped_first : (f : ℕ → ℕ) (v : ℕ) (xs ys : List ℕ) → IsAmong v (map f xs) → IsAmong v (map f (xs ++ ys))
mapped_first f v xs ys a = subst (IsAmong v) (sym (map-append f xs ys)) (among_first v (map f xs) (map f ys) a)

pub mapped_last : (f : ℕ → ℕ) (v : ℕ) (xs ys : List ℕ) → IsAmong v (map f ys) → IsAmong v (map f (xs ++ ys))
mapped_last f v xs ys a = subst (IsAmong v) (sym (map-append f xs ys)) (among_last (map f xs) (map f ys) v a)

-- one more of these variables is marked
pub only_more : (old needed : List Bool) (variables : List ℕ) (v : ℕ) → IsAmong v variables
    → OnlyMark old needed variables → OnlyMark old (set needed v true) variables
only_more old needed variables v among before w marked = elim (cases_eq w v) [
  | inl same ↦ inr (subst (λ (u : ℕ). IsAmong u variables) (sym same) among)
  | inr other ↦ before w (sym (unmarked_still needed v w other) ∙ marked)
]

-- the operands of a gate that is needed are marked
pub only_operands : (first at : ℕ) (gates : List Gate) (needed : List Bool) (gate : Gate) (l r : ℕ)
    → AreOrderedGates first gates → at < length gates → is_marked needed (first + at) ≡ true
    → gate ≡ gate_at gates at → l ≡ variable_of gate.left → r ≡ variable_of gate.right
    → KeepMarks needed (set (set needed l true) r true)
    → OnlyMarkNeeds needed (set (set needed l true) r true) gates
only_operands first at gates needed gate l r ordered there on same l_is r_is kept v marked =
    let g : Gate = gate_at gates at in
    let here : is_marked (set (set needed l true) r true) g.var ≡ true =
    kept g.var (ap (is_marked needed) (ordered_at first gates ordered at there).0 ∙ on) in
    elim (cases_eq v r) [
      | inl right ↦
          inr (at, there, here, inr (inl (right ∙ r_is ∙ ap (λ (x : Gate). variable_of x.right) same)))
      | inr not_right ↦ elim (cases_eq v l) [
        | inl left ↦ inr (at, there, here, inl (left ∙ l_is ∙ ap (λ (x : Gate). variable_of x.left) same))
        | inr not_left ↦
            inl (sym (unmarked_still needed l v not_left) ∙ sym (unmarked_still (set needed l true) r v not_right)
            ∙ marked)
      ]
    ]

in_lists : (v : ℕ) (lists : List (List ℕ)) (k : ℕ) → k < length lists → IsAmong v (map variable_of (get_or lists k []))
    → IsAmong v (map variable_of (concat lists))
in_lists v [] k below a = absurd (omega (arith, below))
in_lists v (ls ∷ lists) zero below a = mapped_first variable_of v ls (concat lists) a
in_lists v (ls ∷ lists) (suc k) below a =
    mapped_last variable_of v ls (concat lists) (in_lists v lists k (omega (arith, below)) a)

module _ (c : Circuit) where
  abbrev IsShown : ℕ → Type 0
  IsShown v = IsAmong v (map variable_of (shown_literals c))

  abbrev OnlyShown : List Bool → Type 0
  OnlyShown needed = (v : ℕ) → is_marked needed v ≡ true → IsShown v

  none_shown : (needed : List Bool) → AreUnmarked needed → OnlyShown needed
  none_shown needed fresh v marked = absurd (false≢true (sym (fresh v) ∙ marked))

  more_shown : (old new : List Bool) (variables : List ℕ) → ((v : ℕ) → IsAmong v variables → IsShown v)
      → OnlyShown old → OnlyMark old new variables → OnlyShown new
  more_shown old new variables shown before only v marked =
      ⊎_elim (λ (m : is_marked old v ≡ true). before v m) (λ (a : IsAmong v variables). shown v a) (only v marked)

  nexts_shown : (v : ℕ) → IsAmong v (map (λ (l : Latch). variable_of l.next) c.latches) → IsShown v
  nexts_shown v a =
      mapped_first variable_of v (next_literals c) (concat (literal_lists c))
      (subst (IsAmong v) (sym (map-map variable_of (λ (l : Latch). l.next) c.latches)) a)

  list_shown : (k : ℕ) → k < length (literal_lists c) → (v : ℕ)
      → IsAmong v (map variable_of (get_or (literal_lists c) k [])) → IsShown v
  list_shown k below v a =
      mapped_last variable_of v (next_literals c) (concat (literal_lists c)) (in_lists v (literal_lists c) k below a)

  -- all lists, one after the other, and then the gates
  pub only_needed : (m0 m1 m2 m3 m4 m5 m6 m7 : List Bool) → AreUnmarked m0
      → OnlyMark m0 m1 (map (λ (l : Latch). variable_of l.next) c.latches)
      → OnlyMark m1 m2 (map variable_of c.outputs) → OnlyMark m2 m3 (map variable_of c.bad)
      → OnlyMark m3 m4 (map variable_of c.constraints) → OnlyMark m4 m5 (map variable_of c.justice.literals)
      → OnlyMark m5 m6 (map variable_of c.fairness) → OnlyMarkNeeds m6 m7 c.gates → OnlyNeeded m7 c
  only_needed m0 m1 m2 m3 m4 m5 m6 m7 fresh nexts outputs bad constraints justice fairness gates v marked =
      let s1 : OnlyShown m1 =
      more_shown m0 m1 (map (λ (l : Latch). variable_of l.next) c.latches) nexts_shown (none_shown m0 fresh) nexts in
      let s2 : OnlyShown m2 =
      more_shown m1 m2 (map variable_of c.outputs) (list_shown 0 (omega arith)) s1 outputs in
      let s3 : OnlyShown m3 = more_shown m2 m3 (map variable_of c.bad) (list_shown 1 (omega arith)) s2 bad in
      let s4 : OnlyShown m4 =
      more_shown m3 m4 (map variable_of c.constraints) (list_shown 2 (omega arith)) s3 constraints in
      let s5 : OnlyShown m5 =
      more_shown m4 m5 (map variable_of c.justice.literals) (list_shown 3 (omega arith)) s4 justice in
      let s6 : OnlyShown m6 =
      more_shown m5 m6 (map variable_of c.fairness) (list_shown 4 (omega arith)) s5 fairness in
      ⊎_elim (λ (m : is_marked m6 v ≡ true). inl (s6 v m)) (λ (n : IsNeedOfNeeded m7 c.gates v). inr n) (gates v marked)

-- the operands of one of the gates
pub operand_among : (v : ℕ) (gs : List Gate) (g : Gate) → Contains gs g → IsAmong v (map variable_of (operands g))
    → IsAmong v (map variable_of (flat_map operands gs))
operand_among v [] g (k, below, is) a = absurd (omega (arith, below))
operand_among v (x ∷ gs) g (zero, below, is) a =
    mapped_first variable_of v (operands x) (flat_map operands gs)
    (subst (λ (y : Gate). IsAmong v (map variable_of (operands y))) (sym is) a)
operand_among v (x ∷ gs) g (suc k, below, is) a =
    mapped_last variable_of v (operands x) (flat_map operands gs)
    (operand_among v gs g (k, omega (arith, below), is) a)

pub uses_each_gate : (c : Circuit) (needed : List Bool) → OnlyNeeded needed c
    → UsesEachGate (with_gates (filter (keeps_marked needed) c.gates) c)
uses_each_gate c needed only h there =
    let left : List Gate = filter (keeps_marked needed) c.gates in
    ⊎_elim
    (λ (shown : IsAmong h.var (map variable_of (shown_literals c))).
    mapped_first variable_of h.var (shown_literals c) (flat_map operands left) shown)
    (λ (need : IsNeedOfNeeded needed c.gates h.var).
    let g : Gate = gate_at c.gates need.0 in
    let kept : Contains left g =
    kept_contained (keeps_marked needed) c.gates g need.2
    (need.0, need.1, get_or_default c.gates need.0 g (record { var = 0; left = 0; right = 0 }) need.1) in
    mapped_last variable_of h.var (shown_literals c) (flat_map operands left) (operand_among h.var left g kept need.3))
    (only h.var (left_passes (keeps_marked needed) c.gates h there))
