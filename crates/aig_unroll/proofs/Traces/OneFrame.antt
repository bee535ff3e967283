-- One frame: where its inputs and gates have the values of a row's assignment, and the literals of latches those of
-- its state, each literal has in the frame the value that it has in the row.
use Rattle.std.proofs.Common.{◌≡◌, ◌+◌, ◌∷◌, ◌∙◌, ◌<◌, ◌++◌, ◌%◌, ◌≤◌, ℕ, List, [], length, map, refl, ap, ap₂, sym}
use Rattle.std.proofs.Common.{suc, arith, rules, zero, get_or, subst, cond, eqb, ⊎_elim}
use Rattle.std.specs.List.{AllByRecursion, range_with_len, Contains}
use Rattle.std.specs.Prelude.{⊤}
use Rattle.std.proofs.lemmas.Bool.{cases_lt, le-leb, lt-leb, ne_eqb}
use Rattle.std.proofs.lemmas.List.{get_or-map, length-map}
use Rattle.aig_circuit.specs.declared.circuit.Gate.{Gate}
use Rattle.aig_circuit.specs.declared.value.Val.{Val}
use Rattle.aig_circuit.specs.Literal.{literal_of, negation_of, variable_of}
use Rattle.aig_circuit.specs.Values.{value_and, value_not}
use Rattle.aig_circuit.specs.declared.value.Val.TheVariants.{Zero, One, X}
use Rattle.aig_circuit.specs.declared.circuit.Circuit.{Circuit}
use Rattle.aig_circuit.specs.Wellformed.{IsAmong, IsVariableUpTo, IsWellFormed, defined_variables}
use Rattle.aig_circuit.proofs.Checking.{each}
use Rattle.aig_checked.specs.BinaryOrder.{AreOrderedGates, IsInBinaryOrder}
use Rattle.aig_meaning.specs.Meaning.{Holds, literal_value, IsReadOff, Row, next_literals}
use Rattle.aig_meaning.proofs.Related.{variables_of, AreDefined, IsDefined, known_next, known_outputs, known_bad}
use Rattle.aig_meaning.proofs.Related.{known_constraints, known_operands, contained_later}
use Rattle.aig_meaning.proofs.Traces.{inputs_length, state_length}
use Rattle.aig_image.proofs.Meaning.{and_exchanged, larger_first}
use Rattle.aig_unroll.specs.Unrolled.{chain_behind, chained, copied, gate_of, guarded, at, first_gate, first_input}
use Rattle.aig_unroll.specs.Unrolled.{latches_at, substitute_for}
use Rattle.aig_unroll.specs.SideBySide.{and_all}

module _ {X : Type 0} (a : ℕ → X) where
  -- from this variable on, the variables have these values
  abbrev pub StandAt : ℕ → List X → Type 0
  StandAt v [] = ⊤
  StandAt v (x ∷ xs) = (a v ≡ x) × StandAt (v + 1) xs

  pub stand_front : (v : ℕ) (xs ys : List X) → StandAt v (xs ++ ys) → StandAt v xs
  stand_front v [] ys all = tt
  stand_front v (x ∷ xs) ys all = (all.0, stand_front (v + 1) xs ys all.1)

  pub stand_back : (v w : ℕ) (xs ys : List X) → v + length xs ≡ w → StandAt v (xs ++ ys) → StandAt w ys
  stand_back v w [] ys e all = let here : v ≡ w = omega arith in subst (λ u. StandAt u ys) here all
  stand_back v w (x ∷ xs) ys e all = stand_back (v + 1) w xs ys (omega arith) all.1

  -- the value at a place
  at_place : (v w : ℕ) (xs : List X) (i : ℕ) (d : X) → v + i ≡ w → i < length xs → StandAt v xs
      → a w ≡ get_or xs i d
  at_place v w [] i d e below all = absurd (omega arith)
  at_place v w (x ∷ xs) zero d e below all = let here : w ≡ v = omega arith in ap a here ∙ all.0
  at_place v w (x ∷ xs) (suc i) d e below all = at_place (v + 1) w xs i d (omega arith) (omega arith) all.1

  -- what can be read from one variable on stands there
  pub stand_self : (v n : ℕ) → StandAt v (map a (range_with_len v n))
  stand_self v zero = tt
  stand_self v (suc n) = (refl, stand_self (v + 1) n)

  -- where they stand, they are what can be read
  pub read_off : (v : ℕ) (xs : List X) → StandAt v xs → map a (range_with_len v (length xs)) ≡ xs
  read_off v [] all = refl
  read_off v (x ∷ xs) all = ap₂ (λ y ys. y ∷ ys) all.0 (read_off (v + 1) xs all.1)

  -- and so does what each place has
  stand_each : (v : ℕ) (xs : List X) (d : X) → ((i : ℕ) → i < length xs → a (v + i) ≡ get_or xs i d)
      → StandAt v xs
  stand_each v [] d each = tt
  stand_each v (x ∷ xs) d each =
      let here : v ≡ v + 0 = omega arith in (
        ap a here ∙ each 0 (omega arith),
        stand_each (v + 1) xs d (λ i below.
            let next : v + 1 + i ≡ v + suc i = omega arith in ap a next ∙ each (suc i) (omega arith)),
      )

-- a list stands where it is looked up
pub stand_looked_up : {X : Type 0} (xs : List X) (d : X) → StandAt (λ v. get_or xs v d) 0 xs
stand_looked_up xs d =
    stand_each (λ v. get_or xs v d) 0 xs d
    (λ i below. let same : 0 + i ≡ i = omega arith in ap (λ j. get_or xs j d) same)

-- where the same values stand, those of one place are the same
same_place : {X : Type 0} (a b : ℕ → X) (d : X) (v w x y : ℕ) (xs : List X) (i : ℕ) → v + i ≡ x → w + i ≡ y
    → i < length xs → StandAt a v xs → StandAt b w xs → a x ≡ b y
same_place a b d v w x y xs i e f below all all_too =
    at_place a v x xs i d e below all ∙ sym (at_place b w y xs i d f below all_too)

not_twice : (x : Val) → value_not (value_not x) ≡ x
not_twice Zero = refl
not_twice One = refl
not_twice X = refl

module _ (a : ℕ → Val) where
  pub variable_value : (v : ℕ) → literal_value a (literal_of v) ≡ a v
  variable_value v = search rules

  negation_value : (l : ℕ) → literal_value a (negation_of l) ≡ value_not (literal_value a l)
  negation_value l = search (rules, cases_lt, not_twice)

  -- what stands for a literal's variable, with the literal's sign, has the literal's value
  signed_value : (b : ℕ → Val) (l substitution : ℕ) → literal_value a substitution ≡ b (variable_of l)
      → literal_value a (cond (eqb (l % 2) 0) substitution (negation_of substitution)) ≡ literal_value b l
  signed_value b l substitution same = search (rules, negation_value)

  -- the literals of variables that follow on one another
  pub variables_values : (v : ℕ) (xs : List Val) → StandAt a v xs
      → map (literal_value a) (map literal_of (range_with_len v (length xs))) ≡ xs
  variables_values v [] all = refl
  variables_values v (x ∷ xs) all =
      ap₂ (λ (y : Val) (ys : List Val). y ∷ ys) (variable_value v ∙ all.0) (variables_values (v + 1) xs all.1)

-- the values of the chain after each of these
abbrev pub chain_values : Val → List Val → List Val
chain_values held [] = []
chain_values held (x ∷ xs) = value_and held x ∷ chain_values (value_and held x) xs

pub chain_values_length : (held : Val) (xs : List Val) → length (chain_values held xs) ≡ length xs
chain_values_length held [] = refl
chain_values_length held (x ∷ xs) = ap suc (chain_values_length (value_and held x) xs)

module _ (a : ℕ → Val) where
  -- a gate holds whichever of its operands is the larger one
  gate_holds : (v x y : ℕ) → a v ≡ value_and (literal_value a x) (literal_value a y) → Holds a (gate_of v x y)
  gate_holds v x y e = search (rules, and_exchanged, larger_first)

  -- gates of another assignment, by operands of the same values
  module _ (b : ℕ → Val) (f : ℕ → ℕ) where
    abbrev pub IsCarried : Gate → Type 0
    IsCarried g = Holds b g × (literal_value a (f g.left) ≡ literal_value b g.left)
        × (literal_value a (f g.right) ≡ literal_value b g.right)

    pub copied_hold : (v : ℕ) (gs : List Gate) → AllByRecursion IsCarried gs → StandAt a v (map b (variables_of gs))
        → AllByRecursion (Holds a) (copied f v gs)
    copied_hold v [] carried all = tt
    copied_hold v (g ∷ gs) carried all = (
      gate_holds v (f g.left) (f g.right)
          (all.0 ∙ carried.0.0 ∙ sym (ap₂ value_and carried.0.1 carried.0.2)),
      copied_hold (v + 1) gs carried.1 all.1,
    )

  -- each gate of a chain holds, which had this value before
  pub chained_hold : (v chain : ℕ) (held : Val) (ls : List ℕ) → literal_value a chain ≡ held
      → StandAt a v (chain_values held (map (literal_value a) ls)) → AllByRecursion (Holds a) (chained v chain ls)
  chained_hold v chain held [] is all = tt
  chained_hold v chain held (l ∷ ls) is all = (
    gate_holds v chain l (all.0 ∙ ap (λ x. value_and x (literal_value a l)) (sym is)),
    chained_hold (v + 1) (literal_of v) (value_and held (literal_value a l)) ls (variable_value a v ∙ all.0) all.1,
  )

  -- and the literal after the chain has the `and` of all
  pub chain_goes_on : (v chain : ℕ) (held : Val) (ls : List ℕ) (xs : List Val)
      → literal_value a chain ≡ held → length ls ≡ length xs → StandAt a v (chain_values held xs)
      → literal_value a (chain_behind v chain ls) ≡ and_all held xs
  chain_goes_on v chain held [] [] is e all = is
  chain_goes_on v chain held [] (x ∷ xs) is e all = absurd (omega (arith, e))
  chain_goes_on v chain held (l ∷ ls) [] is e all = absurd (omega (arith, e))
  chain_goes_on v chain held (l ∷ ls) (x ∷ xs) is e all =
      chain_goes_on (v + 1) (literal_of v) (value_and held x) ls xs (variable_value a v ∙ all.0) (omega (arith, e))
      all.1

  -- and so do those of bad states, each with the same chain
  pub guarded_hold : (v chain : ℕ) (held : Val) (ls : List ℕ) → literal_value a chain ≡ held
      → StandAt a v (map (value_and held) (map (literal_value a) ls)) → AllByRecursion (Holds a) (guarded v chain ls)
  guarded_hold v chain held [] is all = tt
  guarded_hold v chain held (l ∷ ls) is all = (
    gate_holds v chain l (all.0 ∙ ap (λ x. value_and x (literal_value a l)) (sym is)),
    guarded_hold (v + 1) chain held ls is all.1,
  )

-- One frame: where the inputs and gates of a frame have the values of a row's assignment, and the literals of latches
-- those of its state, each literal has in the frame the value that it has in the row.

-- what holds of each gate in a list
all_gates : (P : Gate → Type 0) (gs : List Gate) → ((g : Gate) → Contains gs g → P g) → AllByRecursion P gs
all_gates P [] each_holds = tt
all_gates P (g ∷ gs) each_holds = (
  each_holds g (zero, omega arith, refl),
  all_gates P gs (λ h h_in. each_holds h (contained_later g gs h h_in)),
)

-- the values of ordered gates stand at the variables on which they follow
gates_stand : (b : ℕ → Val) (v : ℕ) (gs : List Gate) → AreOrderedGates v gs → StandAt b v (map b (variables_of gs))
gates_stand b v [] o = tt
gates_stand b v (g ∷ gs) o =
    let next : suc v ≡ v + 1 = omega arith in
    (ap b (sym o.0), subst (λ w. StandAt b w (map b (variables_of gs))) next (gates_stand b (suc v) gs o.3))

module _ (c : Circuit) (formed : IsWellFormed c) (ordered : IsInBinaryOrder c) (a : ℕ → Val) (constant : a 0 ≡ Zero)
    (frames t : ℕ) (row : Row) (b : ℕ → Val) (is : IsReadOff c row b)
    (from : map (literal_value a) (latches_at c frames t) ≡ row.state)
    (given : StandAt a (first_input c t) row.inputs)
    (gates : StandAt a (first_gate c frames t) (map b (variables_of c.gates))) where
  inputs_there : StandAt b 1 row.inputs
  inputs_there =
      subst (λ xs. StandAt b 1 xs) (ap (map b) (sym ordered.inputs) ∙ is.assigned.inputs)
      (stand_self b 1 (length c.inputs))

  state_there : StandAt b (1 + length c.inputs) row.state
  state_there =
      subst (λ xs. StandAt b (1 + length c.inputs) xs) (ap (map b) (sym ordered.latches) ∙ is.assigned.latches)
      (stand_self b (1 + length c.inputs) (length c.latches))

  as_many_latches : length (latches_at c frames t) ≡ length c.latches
  as_many_latches =
      sym (length-map (latches_at c frames t) (literal_value a)) ∙ ap length from ∙ state_length c row (b, is)

  abbrev substitution : ℕ → ℕ
  substitution v = substitute_for c frames t (latches_at c frames t) v

  at_input : (i : ℕ) → i < length c.inputs → literal_value a (literal_of (first_input c t + i)) ≡ b (1 + i)
  at_input i below =
      variable_value a (first_input c t + i)
      ∙ same_place a b Zero (first_input c t) 1 _ _ row.inputs i refl refl
      (let as_long = inputs_length c row (b, is) in omega (arith, as_long)) given inputs_there

  at_latch : (i : ℕ) → i < length c.latches
      → literal_value a (get_or (latches_at c frames t) i 0) ≡ b (1 + length c.inputs + i)
  at_latch i below =
      let below_too : i < length (latches_at c frames t) = omega (arith, as_many_latches) in
      let as_long : length row.state ≡ length c.latches = state_length c row (b, is) in
      sym (get_or-map (literal_value a) (latches_at c frames t) i 0 Zero below_too)
      ∙ ap (λ xs. get_or xs i Zero) from
      ∙ sym (at_place b (1 + length c.inputs) _ row.state i Zero refl (omega (arith, as_long)) state_there)

  at_gate : (i : ℕ) → i < length c.gates
      → literal_value a (literal_of (first_gate c frames t + i)) ≡ b (1 + length c.inputs + length c.latches + i)
  at_gate i below =
      variable_value a (first_gate c frames t + i)
      ∙ same_place a b Zero (first_gate c frames t) (1 + length c.inputs + length c.latches) _ _
      (map b (variables_of c.gates)) i refl refl
      (omega (arith, length-map (variables_of c.gates) b, length-map c.gates (λ (g : Gate). g.var)))
      gates (gates_stand b (1 + length c.inputs + length c.latches) c.gates ordered.gates)

  substitution_value : (v : ℕ) → v ≤ length c.inputs + length c.latches + length c.gates
      → literal_value a (substitution v) ≡ b v
  substitution_value v most = search (rules, cases_lt, ne_eqb, le-leb, at_input, lt-leb, at_latch, at_gate)

  known_value : (l : ℕ) → IsDefined c l → literal_value a (at c frames t l) ≡ literal_value b l
  known_value l known =
      let all : c.max_var ≡ length c.inputs + length c.latches + length c.gates = ordered.all in
      signed_value a b l (substitution (variable_of l)) (substitution_value (variable_of l)
      (⊎_elim (λ (e : variable_of l ≡ 0). omega (arith, e)) (λ (among : IsAmong (variable_of l) (defined_variables c)).
      let in_range = each (IsVariableUpTo c.max_var) (defined_variables c) formed.in_range (variable_of l) among in
      omega (arith, in_range.1, all)) known))

  known_values : (ls : List ℕ) → AreDefined c ls
      → map (literal_value a) (map (at c frames t) ls) ≡ map (literal_value b) ls
  known_values [] known = refl
  known_values (l ∷ ls) known =
      ap₂ (λ (x : Val) (xs : List Val). x ∷ xs) (known_value l known.0) (known_values ls known.1)

  pub outputs_carried : map (literal_value a) (map (at c frames t) c.outputs) ≡ row.outputs
  outputs_carried = known_values c.outputs (known_outputs c formed) ∙ sym is.outputs_shown

  pub next_carried : map (literal_value a) (latches_at c frames (suc t)) ≡ row.next
  next_carried = known_values (next_literals c) (known_next c formed) ∙ sym is.next_shown

  pub bad_carried : map (literal_value a) (map (at c frames t) c.bad) ≡ row.bad
  bad_carried = known_values c.bad (known_bad c formed) ∙ sym is.bad_shown

  pub constraints_carried : map (literal_value a) (map (at c frames t) c.constraints) ≡ row.constraints
  constraints_carried = known_values c.constraints (known_constraints c formed) ∙ sym is.constraints_shown

  pub gates_carried : AllByRecursion (IsCarried a b (at c frames t)) c.gates
  gates_carried =
      all_gates (IsCarried a b (at c frames t)) c.gates (λ g g_in.
      let known = known_operands c formed g g_in in
      (is.assigned.gates g g_in, known_value g.left known.0, known_value g.right known.1))
