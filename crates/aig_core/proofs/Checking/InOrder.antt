-- Where gates stand after those that they use, no gate depends on a cycle and each operand is known.
use Rattle.std.proofs.Common.{◌≡◌, ◌<◌, ◌≤◌, ◌∷◌, ◌++◌, ◌||◌, ◌∙◌, rules, ℕ, zero, suc, List, [], Bool, true, false}
use Rattle.std.proofs.Common.{cond, eqb, Option, None, Some, length, map, refl, sym, ap, subst, ⊎_elim, arith}
use Rattle.std.specs.List.{concat, flat_map}
use Rattle.std.specs.Option.{is_none, option_or}
use Rattle.std.specs.Ordering.{nat_cmp}
use Rattle.std.specs.FinSet as set
use Rattle.std.specs.FinSet.{FinSet}
use Rattle.std.proofs.lemmas.Bool.Decides.{Decides-eqb}
use Rattle.std.proofs.lemmas.List.Concat.{flat_map-cons}
use Rattle.aig_circuit.specs.declared.circuit.Circuit.{Circuit}
use Rattle.aig_circuit.specs.declared.circuit.Latch.{Latch}
use Rattle.aig_circuit.specs.declared.circuit.Gate.{Gate}
use Rattle.aig_circuit.specs.Literal.{variable_of}
use Rattle.aig_circuit.specs.Wellformed.{IsAmong, IsVariableUpTo, operands, defined_variables, literal_lists}
use Rattle.aig_circuit.specs.Form.{IsInForm}
use Rattle.aig_topo.specs.Order.{gate_operands, ends_within, first_cyclic}
use Rattle.aig_core.specs.Fault.{first_repeat, first_unknown, first_structural_fault, with_all, is_known}
use Rattle.aig_core.specs.Parts.InOrder.{are_in_order, has_gates_in_order}
use Rattle.aig_circuit.proofs.Checking.{each}
use Rattle.aig_core.proofs.Checking.Faultless.{no_repeat, apart, kept}
use Rattle.aig_core.proofs.Checking.Sections.{repeat_append, unknown_append, with_all_append}
use Rattle.aig_topo.proofs.Ordering.Cyclic.{all_true, and_left, and_right, find_none, among_last}
use Rattle.aig_topo.proofs.Ordering.Ranked.{at, needed, over_one, stands_there}

abbrev follow : FinSet nat_cmp → List Gate → Bool
follow = are_in_order (λ (g : Gate). g.var ∷ []) operands

abbrev variables : List Gate → List ℕ
variables = map (λ (g : Gate). g.var)

was_none : (o : Option ℕ) → is_none o ≡ true → o ≡ None
was_none None h = refl
was_none (Some x) h = cc

-- where all of a list are known, each is a constant or over one of the variables
known_each : (s : FinSet nat_cmp) (lits : List ℕ) → first_unknown s lits ≡ None → (v : ℕ) → 1 ≤ v
    → IsAmong v (map variable_of lits) → set.contains s v ≡ true
known_each s [] none v some among = absurd among
known_each s (x ∷ xs) none v some among =
    elim (is_known s x) as (λ b. is_known s x ≡ b → cond b (first_unknown s xs) (Some x) ≡ None
    → set.contains s v ≡ true) [
      | true ↦ λ e rest. ⊎_elim (λ (is : v ≡ variable_of x).
          elim (eqb (variable_of x) 0) as (λ b. eqb (variable_of x) 0 ≡ b → (b || set.contains s (variable_of x)) ≡ true
          → set.contains s v ≡ true) [
            | true ↦ λ z _. absurd (omega (arith, some, is, (Decides-eqb (variable_of x) 0).0 z))
            | false ↦ λ _ h. subst (λ n. set.contains s n ≡ true) (sym is) h
          ] refl e)
          (known_each s xs rest v some) among
      | false ↦ λ e rest. cc
    ] refl none

-- what is known is known with more variables too
known_with_more : (s : FinSet nat_cmp) (vars : List ℕ) (lit : ℕ) → is_known s lit ≡ true
    → is_known (with_all s vars) lit ≡ true
known_with_more s vars lit h = search (rules, kept)

none_unknown_with_more : (s : FinSet nat_cmp) (vars lits : List ℕ) → first_unknown s lits ≡ None
    → first_unknown (with_all s vars) lits ≡ None
none_unknown_with_more s vars [] none = refl
none_unknown_with_more s vars (x ∷ xs) none =
    elim (is_known s x) as (λ b. is_known s x ≡ b → cond b (first_unknown s xs) (Some x) ≡ None
    → cond (is_known (with_all s vars) x) (first_unknown (with_all s vars) xs) (Some x) ≡ None) [
      | true ↦ λ e rest. ap (λ b. cond b (first_unknown (with_all s vars) xs) (Some x)) (known_with_more s vars x e)
          ∙ none_unknown_with_more s vars xs rest
      | false ↦ λ e rest. cc
    ] refl none

-- operands of gates in order are known once all gates are defined
operands_known : (s : FinSet nat_cmp) (gates : List Gate) → follow s gates ≡ true
    → first_unknown (with_all s (variables gates)) (flat_map operands gates) ≡ None
operands_known s [] h = refl
operands_known s (g ∷ gs) h =
    let here : first_unknown s (operands g) ≡ None = was_none (first_unknown s (operands g)) (and_left _ _ h) in
    let later : follow (set.insert s g.var) gs ≡ true = and_right (is_none (first_unknown s (operands g))) _ h in
    ap (first_unknown (with_all s (variables (g ∷ gs)))) (flat_map-cons operands g gs)
    ∙ unknown_append (with_all s (variables (g ∷ gs))) (operands g) (flat_map operands gs)
    ∙ ap (λ o. option_or o (first_unknown (with_all s (variables (g ∷ gs))) (flat_map operands gs)))
    (none_unknown_with_more s (variables (g ∷ gs)) (operands g) here)
    ∙ operands_known (set.insert s g.var) gs later

-- a gate that another uses stands before it
earlier : (s : FinSet nat_cmp) (gates : List Gate) → first_repeat s (variables gates) ≡ None → follow s gates ≡ true
    → (i j : ℕ) → i < length gates → j < length gates
    → 1 ≤ (at gates j).var → IsAmong (at gates j).var (map variable_of (operands (at gates i))) → j < i
earlier s [] once h i j i_there j_there some used = absurd (omega arith)
earlier s (g ∷ gs) once h zero j i_there j_there some used =
    let here : first_unknown s (operands g) ≡ None = was_none (first_unknown s (operands g)) (and_left _ _ h) in
    let before : set.contains s (at (g ∷ gs) j).var ≡ true =
    known_each s (operands g) here (at (g ∷ gs) j).var some used in
    absurd (apart s (variables (g ∷ gs)) once (at (g ∷ gs) j).var before (stands_there (g ∷ gs) j j_there))
earlier s (g ∷ gs) once h (suc i) zero i_there j_there some used = omega arith
earlier s (g ∷ gs) once h (suc i) (suc j) i_there j_there some used =
    let later : follow (set.insert s g.var) gs ≡ true = and_right (is_none (first_unknown s (operands g))) _ h in
    let before : j < i = earlier (set.insert s g.var) gs (no_repeat s g.var (variables gs) once).1 later i j
    (omega arith) (omega arith) some used in
    omega (arith, before)

-- where gates need only those before them, following operands comes to an end
module _ (gates : List Gate) (falls : (i j : ℕ) → i < length gates → IsAmong j (gate_operands gates i) → j < i) where
  ends_there : (n i : ℕ) → i < n → i < length gates → ends_within n gates i ≡ true
  unfolding ends_within
  ends_there zero i below there = absurd (omega arith)
  ends_there (suc n) i below there =
      all_true (ends_within n gates) (gate_operands gates i)
      (λ j used. let before : j < i = falls i j there used in
      ends_there n j (omega (arith, before)) (omega (arith, before)))

  none_depends : first_cyclic gates ≡ None
  none_depends = search (rules, find_none, needed, all_true, ends_there)

both_none : (o p : Option ℕ) → option_or o p ≡ None → (o ≡ None) × (p ≡ None)
both_none None p h = (refl, h)
both_none (Some x) p h = cc

-- a gate's variable is not that of the constants
no_constant : (c : Circuit) → IsInForm c → (p : ℕ) → p < length c.gates → 1 ≤ (at c.gates p).var
no_constant c form p there =
    (each (IsVariableUpTo c.max_var) (defined_variables c) form.variables (at c.gates p).var
    (among_last (c.inputs ++ map (λ (l : Latch). l.var) c.latches) (variables c.gates) (at c.gates p).var
    (stands_there c.gates p there))).0

module _ (c : Circuit) (once : first_repeat set.empty (defined_variables c) ≡ None)
    (in_order : has_gates_in_order c ≡ true) where
  abbrev before : List ℕ
  before = c.inputs ++ map (λ (l : Latch). l.var) c.latches

  gates_once : first_repeat (with_all set.empty before) (variables c.gates) ≡ None
  gates_once = (both_none (first_repeat set.empty before) _
      (sym (repeat_append set.empty before (variables c.gates)) ∙ once)).1

  none_cyclic : IsInForm c → first_cyclic c.gates ≡ None
  none_cyclic form = search (rules, none_depends, over_one, earlier, gates_once, no_constant)

  gates_known : first_unknown (with_all set.empty (defined_variables c)) (flat_map operands c.gates) ≡ None
  gates_known =
      ap (λ s. first_unknown s (flat_map operands c.gates)) (with_all_append set.empty before (variables c.gates))
      ∙ operands_known (with_all set.empty before) c.gates in_order

  -- where what is used outside of gates is known too, there is no fault
  pub in_order_faultless : IsInForm c
      → first_unknown (with_all set.empty (defined_variables c))
      (map (λ (l : Latch). l.next) c.latches ++ concat (literal_lists c))
      ≡ None → first_structural_fault c ≡ None
  in_order_faultless form ends = search (rules, unknown_append, gates_known, none_cyclic)
