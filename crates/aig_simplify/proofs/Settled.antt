-- What stands for a variable stands for itself. So where a circuit is folded, each gate that is used needs a gate, and
-- no two are alike.
use Rattle.std.proofs.Common.{◌≡◌, ◌≢◌, ◌+◌, ◌-◌, ◌%◌, ◌<◌, ◌≤◌, ◌∷◌, ◌++◌, ◌∙◌, ◌⊎◌, ℕ, zero, suc, List, [], map}
use Rattle.std.proofs.Common.{refl, sym, ap, subst, inl, inr, ⊎_elim, arith, eqb, max, min}
use Rattle.std.specs.List.{AllByRecursion, Contains, concat, flat_map}
use Rattle.std.proofs.lemmas.Bool.{cond_both, false≢true}
use Rattle.std.proofs.lemmas.Bool.Decides.{Decides-eqb}
use Rattle.aig_circuit.specs.declared.circuit.Gate.{Gate}
use Rattle.aig_circuit.specs.declared.circuit.Circuit.{Circuit}
use Rattle.aig_circuit.specs.Literal.{literal_of, negation_of, variable_of}
use Rattle.aig_circuit.specs.Wellformed.{IsAmong, IsKnown, IsVariableUpTo, IsWellFormed, defined_variables}
use Rattle.aig_circuit.specs.Wellformed.{literal_lists, operands, used_literals}
use Rattle.aig_circuit.proofs.Checking.{back, each, each_of, front, joined, joined_all}
use Rattle.aig_topo.proofs.Ordering.Counted.{among_either}
use Rattle.aig_topo.proofs.Ordering.Cyclic.{among_last}
use Rattle.aig_meaning.specs.Meaning.{latch_variables, next_literals}
use Rattle.aig_meaning.proofs.Related.{gate_named, of_operands, variables_of}
use Rattle.aig_image.proofs.Meaning.{larger_first}
use Rattle.aig_image.proofs.Relabelling.Formed.{all_through}
use Rattle.aig_simplify.specs.Folded.{HasGateFor, HasNothingToFold, IsFoldedBy, NeedsGate, NeedsNoGate}
use Rattle.aig_simplify.specs.Folded.{StandsForItself, folded_gate}
use Rattle.aig_simplify.specs.Folded.{folded_literal}
use Rattle.aig_simplify.specs.Laws.{FoldedHasNothingToFold}
use Rattle.aig_simplify.specs.Swept.{IsUsed}
use Rattle.aig_simplify.proofs.SameMeaning.{same_next}
use Rattle.aig_simplify.proofs.Sweeping.{among_of}

own_variable : (v : ℕ) → variable_of (literal_of v) ≡ v
own_variable v = omega arith

negation_variable : (l : ℕ) → variable_of (negation_of l) ≡ variable_of l
negation_variable l =
    cond_both (eqb (l % 2) 0) (l + 1) (l - 1) (λ (x : ℕ). variable_of x ≡ variable_of l)
    (λ e. let even : l % 2 ≡ 0 = (Decides-eqb (l % 2) 0).0 e in omega arith)
    (λ e.
    let odd : l % 2 ≢ 0 = λ even. false≢true (sym e ∙ (Decides-eqb (l % 2) 0).1 even) in
    omega arith)

module _ (f : ℕ → ℕ) where
  folded_variable : (l : ℕ) → variable_of (folded_literal f l) ≡ variable_of (f (variable_of l))
  folded_variable l = let value : ℕ = f (variable_of l) in
      cond_both (eqb (l % 2) 0) value (negation_of value) (λ (x : ℕ). variable_of x ≡ variable_of value) (λ _. refl)
      (λ _. negation_variable value)

  -- the literal is over a variable that stands for itself
  abbrev IsOverOwn : ℕ → Type 0
  IsOverOwn literal = StandsForItself f (variable_of literal)

  -- and so is what stands for the variable
  abbrev IsSettled : ℕ → Type 0
  IsSettled v = IsOverOwn (f v)

  own_settled : (v : ℕ) → StandsForItself f v → IsSettled v
  own_settled v own = subst (StandsForItself f) (sym (ap variable_of own ∙ own_variable v)) own

  literal_settled : (l : ℕ) → IsSettled (variable_of l) → IsOverOwn (folded_literal f l)
  literal_settled l settled = subst (StandsForItself f) (sym (folded_variable l)) settled

  sorted_settled : (x y : ℕ) → IsOverOwn x → IsOverOwn y → IsOverOwn (max x y) × IsOverOwn (min x y)
  sorted_settled x y x_own y_own =
      ⊎_elim
      (λ (e : (max x y ≡ x) × (min x y ≡ y)).
      (subst IsOverOwn (sym e.0) x_own, subst IsOverOwn (sym e.1) y_own))
      (λ (e : (max x y ≡ y) × (min x y ≡ x)).
      (subst IsOverOwn (sym e.0) y_own, subst IsOverOwn (sym e.1) x_own))
      (larger_first x y)

among_mapped : (P : ℕ → Type 0) (ls : List ℕ) → AllByRecursion (λ l. P (variable_of l)) ls → (v : ℕ)
    → IsAmong v (map variable_of ls) → P v
among_mapped P [] all v a = absurd a
among_mapped P (l ∷ ls) all v a =
    ⊎_elim (λ (e : v ≡ variable_of l). subst P (sym e) all.0)
    (λ (i : IsAmong v (map variable_of ls)). among_mapped P ls all.1 v i) a

pub mapped_back : {A B : Type 0} (f : A → B) (xs : List A) (y : B) → Contains (map f xs) y
    → (x : A) × Contains xs x × (f x ≡ y)
mapped_back f [] y (k, below, is) = absurd (omega (arith, below))
mapped_back f (x ∷ xs) y (zero, below, is) = (x, (zero, omega arith, refl), is)
mapped_back f (x ∷ xs) y (suc k, below, is) =
    let there = mapped_back f xs y (k, omega (arith, below), is) in
    (there.0, (suc there.1.0, omega (arith, there.1.1), there.1.2), there.2)

module _ (f : ℕ → ℕ) (c d : Circuit) (is : IsFoldedBy f c d) (good : IsWellFormed c) where
  abbrev rank : ℕ → ℕ
  rank = good.ranked.0

  abbrev first_ones : List ℕ
  first_ones = c.inputs ++ latch_variables c

  abbrev IsKnownThere : ℕ → Type 0
  IsKnownThere = IsKnown (defined_variables c)

  its_gates : d.gates ≡ map (folded_gate f) c.gates
  its_gates = ap (λ (x : Circuit). x.gates) is.same

  known_settled : (l : ℕ) → IsKnownThere l
      → ((h : Gate) → Contains c.gates h → variable_of l ≡ h.var → IsSettled f h.var) → IsSettled f (variable_of l)
  known_settled l known of_gate =
      ⊎_elim (λ (e : variable_of l ≡ 0). subst (IsSettled f) (sym e) (own_settled f 0 is.constant))
      (λ (a : IsAmong (variable_of l) (defined_variables c)).
      ⊎_elim
      (λ (i : IsAmong (variable_of l) first_ones).
      own_settled f (variable_of l) (each (StandsForItself f) first_ones is.first (variable_of l) i))
      (λ (i : IsAmong (variable_of l) (variables_of c.gates)).
      let h = gate_named (variable_of l) c.gates i in
      subst (IsSettled f) (sym h.2) (of_gate h.0 h.1 h.2))
      (among_either (variable_of l) first_ones (variables_of c.gates) a))
      known

  operands_known : (g : Gate) → Contains c.gates g → IsKnownThere g.left × IsKnownThere g.right
  operands_known =
      of_operands IsKnownThere c.gates
      (back IsKnownThere (next_literals c ++ concat (literal_lists c)) (flat_map operands c.gates) good.known)

  gate_settled : (n : ℕ) (g : Gate) → Contains c.gates g → rank g.var < n → IsSettled f g.var
  gate_settled zero g g_in low = absurd (omega (arith, low))
  gate_settled (suc n) g g_in low =
      let known = operands_known g g_in in
      let operand : (l : ℕ) → IsKnownThere l → IsAmong (variable_of l) (map variable_of (operands g))
      → IsOverOwn f (folded_literal f l) =
      λ l l_known a. literal_settled f l
      (known_settled l l_known
      (λ h h_in same.
      let lower : rank h.var < rank g.var =
      good.ranked.1 g h g_in h_in (subst (λ (v : ℕ). IsAmong v (map variable_of (operands g))) same a) in
      gate_settled n h h_in (omega (arith, low, lower)))) in
      let x : ℕ = folded_literal f g.left in
      let y : ℕ = folded_literal f g.right in
      let larger : IsOverOwn f (max x y) =
      (sorted_settled f x y (operand g.left known.0 (inl refl)) (operand g.right known.1 (inr (inl refl)))).0 in
      ⊎_elim
      (λ (none : NeedsNoGate (max x y) (min x y) (f g.var)).
      ⊎_elim (λ (z : (min x y ≡ 0) × (f g.var ≡ 0)). subst (IsOverOwn f) (sym z.1) is.constant)
      (λ (i : ((min x y ≡ 1) × (f g.var ≡ max x y)) ⊎ ((min x y ≡ max x y) × (f g.var ≡ max x y))).
      ⊎_elim (λ (o : (min x y ≡ 1) × (f g.var ≡ max x y)). subst (IsOverOwn f) (sym o.1) larger)
      (λ (o : (min x y ≡ max x y) × (f g.var ≡ max x y)). subst (IsOverOwn f) (sym o.1) larger)
      i)
      none)
      (λ (h : HasGateFor f d.gates (folded_gate f g) (f g.var)).
      subst (IsOverOwn f) (sym h.5) (subst (StandsForItself f) (sym (own_variable h.0.var)) h.4))
      (is.gates g g_in)

  known_stands : (l : ℕ) → IsKnownThere l → IsOverOwn f (folded_literal f l)
  known_stands l known =
      literal_settled f l
      (known_settled l known
      (λ h h_in same.
      let low : rank h.var < suc (rank h.var) = omega arith in
      gate_settled (suc (rank h.var)) h h_in low))

  abbrev AllOverOwn : List ℕ → Type 0
  AllOverOwn = AllByRecursion (IsOverOwn f)

  list_stands : (ls : List ℕ) → AllByRecursion IsKnownThere ls → AllOverOwn (map (folded_literal f) ls)
  list_stands = all_through IsKnownThere (IsOverOwn f) (folded_literal f) known_stands

  operands_stand : (gs : List Gate) → AllByRecursion IsKnownThere (flat_map operands gs)
      → AllOverOwn (flat_map operands (map (folded_gate f) gs))
  operands_stand [] all = tt
  operands_stand (g ∷ gs) all =
      let both = sorted_settled f (folded_literal f g.left) (folded_literal f g.right) (known_stands g.left all.0)
      (known_stands g.right all.1.0) in
      (both.0, (both.1, operands_stand gs all.1.1))

  all_stand : AllOverOwn (used_literals d)
  all_stand =
      let known_first : AllByRecursion IsKnownThere (next_literals c ++ concat (literal_lists c)) =
      front IsKnownThere (next_literals c ++ concat (literal_lists c)) (flat_map operands c.gates) good.known in
      let lists : AllByRecursion (AllByRecursion IsKnownThere) (literal_lists c) =
      each_of IsKnownThere (literal_lists c)
      (back IsKnownThere (next_literals c) (concat (literal_lists c)) known_first) in
      let nexts : AllOverOwn (next_literals d) =
      subst AllOverOwn (sym (same_next f c d is))
      (list_stands (next_literals c) (front IsKnownThere (next_literals c) (concat (literal_lists c)) known_first)) in
      let lists_stand : AllByRecursion AllOverOwn (literal_lists d) = (
        subst AllOverOwn (sym (ap (λ (x : Circuit). x.outputs) is.same)) (list_stands c.outputs lists.0),
        (
          subst AllOverOwn (sym (ap (λ (x : Circuit). x.bad) is.same)) (list_stands c.bad lists.1.0),
          (
            subst AllOverOwn (sym (ap (λ (x : Circuit). x.constraints) is.same))
                (list_stands c.constraints lists.1.1.0),
            (
              subst AllOverOwn (sym (ap (λ (x : Circuit). x.justice.literals) is.same))
                  (list_stands c.justice.literals lists.1.1.1.0),
              (
                subst AllOverOwn (sym (ap (λ (x : Circuit). x.fairness) is.same))
                    (list_stands c.fairness lists.1.1.1.1.0),
                tt,
              ),
            ),
          ),
        ),
      ) in
      joined (IsOverOwn f) (next_literals d ++ concat (literal_lists d)) (flat_map operands d.gates)
      (joined (IsOverOwn f) (next_literals d) (concat (literal_lists d)) nexts
      (joined_all (IsOverOwn f) (literal_lists d) lists_stand))
      (subst (λ (gs : List Gate). AllOverOwn (flat_map operands gs)) (sym its_gates)
      (operands_stand c.gates
      (back IsKnownThere (next_literals c ++ concat (literal_lists c)) (flat_map operands c.gates) good.known)))

  used_stands : (v : ℕ) → IsUsed d v → StandsForItself f v
  used_stands = among_mapped (StandsForItself f) (used_literals d) all_stand

  -- a gate that stands for itself needs a gate
  own_needs : IsWellFormed d → (g : Gate) → Contains c.gates g → Contains d.gates (folded_gate f g)
      → StandsForItself f g.var → NeedsGate (folded_gate f g).left (folded_gate f g).right
  own_needs good_too g g_in there own =
      let x : ℕ = folded_literal f g.left in
      let y : ℕ = folded_literal f g.right in
      let some : 1 ≤ g.var =
      (each (IsVariableUpTo d.max_var) (defined_variables d) good_too.in_range g.var
      (among_last (d.inputs ++ latch_variables d) (variables_of d.gates) g.var
      (among_of g.var d.gates (folded_gate f g) there refl))).0 in
      let not_own : f g.var ≡ max x y → ⊥ =
      λ same.
      let operand : g.var ≡ variable_of (max x y) =
      sym (own_variable g.var) ∙ ap variable_of (sym own ∙ same) in
      let below : good_too.ranked.0 g.var < good_too.ranked.0 g.var =
      good_too.ranked.1 (folded_gate f g) (folded_gate f g) there there (inl operand) in
      absurd (omega (arith, below)) in
      ⊎_elim
      (λ (none : NeedsNoGate (max x y) (min x y) (f g.var)).
      ⊎_elim (λ (z : (min x y ≡ 0) × (f g.var ≡ 0)). absurd (omega (arith, z.1, own, some)))
      (λ (i : ((min x y ≡ 1) × (f g.var ≡ max x y)) ⊎ ((min x y ≡ max x y) × (f g.var ≡ max x y))).
      ⊎_elim (λ (o : (min x y ≡ 1) × (f g.var ≡ max x y)). absurd (not_own o.1))
      (λ (o : (min x y ≡ max x y) × (f g.var ≡ max x y)). absurd (not_own o.1))
      i)
      none)
      (λ (h : HasGateFor f d.gates (folded_gate f g) (f g.var)).
      subst (λ (l : ℕ). NeedsGate l (min x y)) h.2.0 (subst (λ (r : ℕ). NeedsGate h.0.left r) h.2.1 h.3))
      (is.gates g g_in)

  nothing_left : IsWellFormed d → HasNothingToFold d
  nothing_left good_too = record {
    needed = λ g g_in used.
        let source = mapped_back (folded_gate f) c.gates g
        (subst (λ (gs : List Gate). Contains gs g) its_gates g_in) in
        let own : StandsForItself f source.0.var =
        subst (λ (h : Gate). StandsForItself f h.var) (sym source.2) (used_stands g.var used) in
        subst (λ (h : Gate). NeedsGate h.left h.right) source.2
        (own_needs good_too source.0 source.1 (subst (Contains d.gates) (sym source.2) g_in) own);
    apart = λ g h g_in h_in g_used h_used same.
        is.merged g h g_in h_in (used_stands g.var g_used) (used_stands h.var h_used) same;
  }

pub folded_has_nothing_to_fold : FoldedHasNothingToFold
folded_has_nothing_to_fold f c d is good good_too = nothing_left f c d is good good_too
