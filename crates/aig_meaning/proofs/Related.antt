-- What holds between the values of two assignments, list by list, where `not` and `and` keep it.
use Rattle.std.proofs.Common.{◌≡◌, ◌<◌, ◌∷◌, ◌++◌, ◌+◌, ◌%◌, ◌∙◌, ℕ, zero, suc, List, [], length, map, get_or, refl}
use Rattle.std.proofs.Common.{ap₂, subst, inl, inr, ⊎_elim, arith, rules, sym, ap, eqb, cond}
use Rattle.std.specs.List.{AllZip, AllByRecursion, Contains, flat_map, concat}
use Rattle.aig_circuit.specs.declared.circuit.Gate.{Gate}
use Rattle.aig_circuit.specs.Wellformed.{IsAmong, AreDistinct, operands, IsKnown, IsWellFormed, defined_variables}
use Rattle.aig_circuit.specs.Wellformed.{literal_lists}
use Rattle.aig_circuit.specs.declared.circuit.Circuit.{Circuit}
use Rattle.aig_circuit.specs.declared.value.Val.{Val}
use Rattle.aig_circuit.specs.declared.value.Val.TheVariants.{Zero, One, X}
use Rattle.aig_circuit.specs.Literal.{variable_of}
use Rattle.aig_circuit.specs.Values.{value_and, value_not}
use Rattle.aig_circuit.proofs.Checking.{front, back, each_of}
use Rattle.aig_topo.proofs.Ordering.Cyclic.{among_last}
use Rattle.aig_topo.proofs.Ordering.Counted.{among_first as among_front, among_either}
use Rattle.aig_meaning.specs.Meaning.{next_literals, IsStepAssignment, latch_variables, literal_value}
use Rattle.aig_meaning.specs.Completion.{IsCompleted, Stays}

pub distinct_front : (xs ys : List ℕ) → AreDistinct (xs ++ ys) → AreDistinct xs
distinct_front [] ys d = tt
distinct_front (x ∷ xs) ys d = (λ a. d.0 (among_front x xs ys a), distinct_front xs ys d.1)

-- where two lists joined are distinct, what stands in the first does not stand in the second
pub distinct_apart : (xs ys : List ℕ) → AreDistinct (xs ++ ys) → (v : ℕ) → IsAmong v xs → ¬ IsAmong v ys
distinct_apart [] ys d v a = absurd a
distinct_apart (x ∷ xs) ys d v a =
    λ b. ⊎_elim (λ (e : v ≡ x). d.0 (among_last xs ys x (subst (λ z. IsAmong z ys) e b)))
    (λ (i : IsAmong v xs). distinct_apart xs ys d.1 v i b) a

-- functions that are the same on a list's numbers make the same list of them
pub map_same : {X : Type 0} (f g : ℕ → X) (xs : List ℕ) → ((x : ℕ) → IsAmong x xs → f x ≡ g x) → map f xs ≡ map g xs
map_same f g [] same = refl
map_same f g (x ∷ xs) same = ap₂ (λ y ys. y ∷ ys) (same x (inl refl)) (map_same f g xs (λ y i. same y (inr i)))

-- what holds of all operands holds of those of each gate
pub of_operands : (P : ℕ → Type 0) (gates : List Gate) → AllByRecursion P (flat_map operands gates)
    → (g : Gate) → Contains gates g → P g.left × P g.right
of_operands P gates all g g_in = at_place gates all g_in.0 g_in.1 g_in.2 where
  at_place : (gs : List Gate) → AllByRecursion P (flat_map operands gs) → (i : ℕ) → i < length gs → get_or gs i g ≡ g
      → P g.left × P g.right
  at_place [] each i below is = absurd (omega arith)
  at_place (x ∷ xs) each zero below is = subst (λ (z : Gate). P z.left × P z.right) is (each.0, each.1.0)
  at_place (x ∷ xs) each (suc i) below is = at_place xs each.1.1 i (omega arith) is

abbrev pub variables_of : List Gate → List ℕ
variables_of gates = map (λ (g : Gate). g.var) gates

pub contained_later : (x : Gate) (xs : List Gate) (g : Gate) → Contains xs g → Contains (x ∷ xs) g
contained_later x xs g c = (suc c.0, omega (arith, c.1), c.2)

-- the gate that defines a variable
pub gate_named : (v : ℕ) (gates : List Gate) → IsAmong v (variables_of gates)
    → (g : Gate) × Contains gates g × (v ≡ g.var)
gate_named v [] a = absurd a
gate_named v (x ∷ xs) a =
    ⊎_elim (λ (e : v ≡ x.var). (x, (zero, omega arith, refl), e))
    (λ (b : IsAmong v (variables_of xs)). let n = gate_named v xs b in (n.0, contained_later x xs n.0 n.1, n.2)) a

module _ {X : Type 0} where
  pub each_equal : (xs ys : List X) → AllZip (λ x y. x ≡ y) xs ys → xs ≡ ys
  each_equal [] [] e = refl
  each_equal [] (y ∷ ys) e = absurd e
  each_equal (x ∷ xs) [] e = absurd e
  each_equal (x ∷ xs) (y ∷ ys) e = ap₂ (λ z zs. z ∷ zs) e.0 (each_equal xs ys e.1)

  pub equal_each : (xs : List X) → AllZip (λ x y. x ≡ y) xs xs
  equal_each [] = tt
  equal_each (x ∷ xs) = (refl, equal_each xs)

-- a relation of two lists that another one follows from
pub all_zip_weaker : {X Y : Type 0} (R Q : X → Y → Type 0) → ((x : X) (y : Y) → R x y → Q x y)
    → (xs : List X) (ys : List Y) → AllZip R xs ys → AllZip Q xs ys
all_zip_weaker R Q weaker [] [] all = tt
all_zip_weaker R Q weaker [] (y ∷ ys) all = absurd all
all_zip_weaker R Q weaker (x ∷ xs) [] all = absurd all
all_zip_weaker R Q weaker (x ∷ xs) (y ∷ ys) all = (weaker x y all.0, all_zip_weaker R Q weaker xs ys all.1)

-- The literals that a well-formed circuit uses are known, list by list.

-- a literal that the circuit defines, or a constant
abbrev pub IsDefined : Circuit → ℕ → Type 0
IsDefined c literal = IsKnown (defined_variables c) literal

abbrev pub AreDefined : Circuit → List ℕ → Type 0
AreDefined c literals = AllByRecursion (IsDefined c) literals

module _ (c : Circuit) (formed : IsWellFormed c) where
  outside_gates : AreDefined c (next_literals c ++ concat (literal_lists c))
  outside_gates =
      front (IsDefined c) (next_literals c ++ concat (literal_lists c)) (flat_map operands c.gates) formed.known

  pub known_next : AreDefined c (next_literals c)
  known_next = front (IsDefined c) (next_literals c) (concat (literal_lists c)) outside_gates

  known_lists : AllByRecursion (AreDefined c) (literal_lists c)
  known_lists =
      each_of (IsDefined c) (literal_lists c)
      (back (IsDefined c) (next_literals c) (concat (literal_lists c)) outside_gates)

  pub known_outputs : AreDefined c c.outputs
  known_outputs = known_lists.0

  pub known_bad : AreDefined c c.bad
  known_bad = known_lists.1.0

  pub known_constraints : AreDefined c c.constraints
  known_constraints = known_lists.1.1.0

  pub known_operands : (g : Gate) → Contains c.gates g → IsDefined c g.left × IsDefined c g.right
  known_operands g g_in =
      of_operands (IsDefined c) c.gates
      (back (IsDefined c) (next_literals c ++ concat (literal_lists c)) (flat_map operands c.gates) formed.known) g g_in

-- What holds between the values that two assignments give to inputs and latches holds between all their values, where
-- `not` and `and` keep it.

-- a relation that the operations keep
pub record IsKept (R : Val → Val → Type 0) : Type 0 where
  pub at_zero : R Zero Zero
  pub by_not : (x y : Val) → R x y → R (value_not x) (value_not y)
  pub by_and : (x y z w : Val) → R x y → R z w → R (value_and x z) (value_and y w)

module _ (R : Val → Val → Type 0) (kept : IsKept R) (a b : ℕ → Val) where
  in_list : (variables : List ℕ) → AllZip R (map a variables) (map b variables) → (v : ℕ) → IsAmong v variables
      → R (a v) (b v)
  in_list [] each v among = absurd among
  in_list (x ∷ xs) each v among =
      ⊎_elim (λ (e : v ≡ x). subst (λ z. R (a z) (b z)) (sym e) each.0)
      (λ (later : IsAmong v xs). in_list xs each.1 v later) among

  of_literal : (literal : ℕ) → R (a (variable_of literal)) (b (variable_of literal))
      → R (literal_value a literal) (literal_value b literal)
  of_literal literal r = search rules

  module _ (c : Circuit) (formed : IsWellFormed c) (state state_too given given_too : List Val)
      (of_state : AllZip R state state_too) (of_given : AllZip R given given_too)
      (is_a : IsStepAssignment c state given a) (is_b : IsStepAssignment c state_too given_too b) where
    abbrev IsRelated : ℕ → Type 0
    IsRelated v = R (a v) (b v)

    of_constant : IsRelated 0
    of_constant = rw (is_a.constant, is_b.constant) kept.at_zero

    of_input : (v : ℕ) → IsAmong v c.inputs → IsRelated v
    of_input v among = in_list c.inputs (rw (is_a.inputs, is_b.inputs) of_given) v among

    of_latch : (v : ℕ) → IsAmong v (latch_variables c) → IsRelated v
    of_latch v among = in_list (latch_variables c) (rw (is_a.latches, is_b.latches) of_state) v among

    -- a defined variable, if it is related wherever it is a gate's
    of_defined : (v : ℕ) → (IsAmong v (variables_of c.gates) → IsRelated v) → IsAmong v (defined_variables c)
        → IsRelated v
    of_defined v of_gate among =
        ⊎_elim (λ (first : IsAmong v (c.inputs ++ latch_variables c)).
        ⊎_elim (λ (i : IsAmong v c.inputs). of_input v i) (λ (l : IsAmong v (latch_variables c)). of_latch v l)
        (among_either v c.inputs (latch_variables c) first))
        of_gate (among_either v (c.inputs ++ latch_variables c) (variables_of c.gates) among)

    -- and a literal over such a variable
    of_known : (literal : ℕ) → IsDefined c literal
        → (IsAmong (variable_of literal) (variables_of c.gates) → IsRelated (variable_of literal))
        → R (literal_value a literal) (literal_value b literal)
    of_known literal known of_gate =
        of_literal literal (
        ⊎_elim (λ (e : variable_of literal ≡ 0). subst (λ v. IsRelated v) (sym e) of_constant)
        (λ (among : IsAmong (variable_of literal) (defined_variables c)).
        of_defined (variable_of literal) of_gate among) known
        )

    -- by induction on the rank
    of_gate : (bound : ℕ) (g : Gate) → Contains c.gates g → formed.ranked.0 g.var < bound → IsRelated g.var
    of_gate zero g g_in below = absurd (omega arith)
    of_gate (suc bound) g g_in below =
        let known = known_operands c formed g g_in in
        let operand : (literal : ℕ) → IsAmong (variable_of literal) (map variable_of (operands g)) → IsDefined c literal
        → R (literal_value a literal) (literal_value b literal) =
        λ literal used is_known. of_known literal is_known (λ among.
        let named = gate_named (variable_of literal) c.gates among in
        let lower : formed.ranked.0 (named.0).var < formed.ranked.0 g.var =
        formed.ranked.1 g named.0 g_in named.1
        (subst (λ v. IsAmong v (map variable_of (operands g))) named.2 used) in
        subst (λ v. IsRelated v) (sym named.2) (of_gate bound named.0 named.1 (omega (arith, lower, below)))) in
        rw (is_a.gates g g_in, is_b.gates g g_in)
        (kept.by_and _ _ _ _ (operand g.left (inl refl) known.0) (operand g.right (inr (inl refl)) known.1))

    of_gates : (v : ℕ) → IsAmong v (variables_of c.gates) → IsRelated v
    of_gates v among =
        let named = gate_named v c.gates among in
        subst (λ w. IsRelated w) (sym named.2)
        (of_gate (formed.ranked.0 (named.0).var + 1) named.0 named.1 (omega arith))

    pub everywhere : (v : ℕ) → IsAmong v (defined_variables c) → R (a v) (b v)
    everywhere v among = of_defined v (of_gates v) among

    pub of_literals : (literals : List ℕ) → AreDefined c literals
        → AllZip R (map (literal_value a) literals) (map (literal_value b) literals)
    of_literals [] known = tt
    of_literals (l ∷ ls) known = (of_known l known.0 (of_gates (variable_of l)), of_literals ls known.1)

-- Two step assignments of the same state and inputs agree on all that the circuit defines.

-- assignments that agree on a literal's variable agree on the literal
pub same_literal : (a b : ℕ → Val) (literal : ℕ) → a (variable_of literal) ≡ b (variable_of literal)
    → literal_value a literal ≡ literal_value b literal
same_literal a b literal e = ap (λ v. cond (eqb (literal % 2) 0) v (value_not v)) e

equal_is_kept : IsKept (λ x y. x ≡ y)
equal_is_kept = record { at_zero = refl; by_not = λ x y e. ap value_not e; by_and = λ x y z w e d. ap₂ value_and e d }

module _ (c : Circuit) (state given : List Val) (a b : ℕ → Val) (formed : IsWellFormed c)
    (is_a : IsStepAssignment c state given a) (is_b : IsStepAssignment c state given b) where
  pub assignments_agree : (v : ℕ) → IsAmong v (defined_variables c) → a v ≡ b v
  assignments_agree v among =
      everywhere (λ x y. x ≡ y) equal_is_kept a b c formed state state given given (equal_each state) (equal_each given)
      is_a is_b v among

  pub literals_agree : (literals : List ℕ) → AreDefined c literals
      → map (literal_value a) literals ≡ map (literal_value b) literals
  literals_agree literals known = search (rules, each_equal, of_literals, equal_is_kept, equal_each)

-- `not` and `and` keep known values: where more is known of their operands, what was known of the result stays.
not_stays : (x y : Val) → Stays x y → Stays (value_not x) (value_not y)
not_stays Zero y r = ap value_not r
not_stays One y r = ap value_not r
not_stays X y r = tt

and_zero : (x : Val) → value_and x Zero ≡ Zero
and_zero Zero = refl
and_zero One = refl
and_zero X = refl

and_stays : (x y z w : Val) → Stays x y → Stays z w → Stays (value_and x z) (value_and y w)
and_stays Zero y z w r s = ap (λ v. value_and v w) r
and_stays One y z w r s = subst (λ v. Stays z (value_and v w)) (sym r) s
and_stays X y Zero w r s = ap (value_and y) s ∙ and_zero y
and_stays X y One w r s = tt
and_stays X y X w r s = tt

pub staying_is_kept : IsKept Stays
staying_is_kept = record { at_zero = refl; by_not = not_stays; by_and = and_stays }

-- a value that is completed stays
pub completed_stays : (x y : Val) → IsCompleted x y → Stays x y
completed_stays Zero y r = r
completed_stays One y r = r
completed_stays X y r = tt
