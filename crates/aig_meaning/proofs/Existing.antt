-- A well-formed circuit has a step assignment: the inputs and latches have what is given, the gates what follows from
-- it, by recursion on the rank. With that no other agrees on all variables, this is the law of one step assignment.
use Rattle.std.proofs.Common.{◌≡◌, ◌<◌, ◌∷◌, ◌++◌, ◌∙◌, rules, ℕ, zero, suc, List, [], length, map, get_or, cond, eqb}
use Rattle.std.proofs.Common.{refl, sym, ap, ap₂, subst, inl, inr, ⊎_elim, arith, Contains, ne_eqb}
use Rattle.std.proofs.lemmas.Bool.Decides.{Decides-eqb}
use Rattle.std.proofs.lemmas.List.{length-map}
use Rattle.aig_circuit.specs.declared.circuit.Latch.{Latch}
use Rattle.aig_circuit.specs.declared.circuit.Gate.{Gate}
use Rattle.aig_circuit.specs.declared.circuit.Circuit.{Circuit}
use Rattle.aig_circuit.specs.declared.value.Val.{Val}
use Rattle.aig_circuit.specs.declared.value.Val.TheVariants.{Zero}
use Rattle.aig_circuit.specs.Literal.{variable_of}
use Rattle.aig_circuit.specs.Values.{value_and}
use Rattle.aig_circuit.specs.Wellformed.{IsAmong, AreDistinct, IsWellFormed, defined_variables, operands}
use Rattle.aig_circuit.proofs.Checking.{each}
use Rattle.aig_topo.proofs.Ordering.Cyclic.{among_last}
use Rattle.aig_topo.proofs.Ordering.LeastReady.{among_or_not}
use Rattle.aig_topo.proofs.Ordering.Ranked.{distinct_back}
use Rattle.aig_meaning.specs.Meaning.{Holds, IsStepAssignment, latch_variables, literal_value}
use Rattle.aig_meaning.specs.Laws.{OneStepAssignment}
use Rattle.aig_meaning.proofs.Related.{distinct_front, distinct_apart, map_same, gate_named, variables_of}
use Rattle.aig_meaning.proofs.Related.{assignments_agree, same_literal}
use Rattle.aig_topo.proofs.Ordering.Counted.{among_first as among_front}

-- the value that stands where the variable does, and else another
abbrev look : List ℕ → List Val → (ℕ → Val) → ℕ → Val
look [] xs other w = other w
look (v ∷ vs) [] other w = other w
look (v ∷ vs) (x ∷ xs) other w = cond (eqb w v) x (look vs xs other w)

look_other : (vs : List ℕ) (xs : List Val) (other : ℕ → Val) (w : ℕ) → ¬ IsAmong w vs → look vs xs other w ≡ other w
look_other [] xs other w out = refl
look_other (v ∷ vs) [] other w out = refl
look_other (v ∷ vs) (x ∷ xs) other w out =
    rw (ne_eqb w v (λ e. out (inl e))) (look_other vs xs other w (λ a. out (inr a)))

look_all : (vs : List ℕ) (xs : List Val) (other : ℕ → Val) → length xs ≡ length vs → AreDistinct vs
    → map (look vs xs other) vs ≡ xs
look_all [] [] other len once = refl
look_all [] (x ∷ xs) other len once = absurd (omega (arith, len))
look_all (v ∷ vs) [] other len once = absurd (omega (arith, len))
look_all (v ∷ vs) (x ∷ xs) other len once =
    ap₂ (λ y ys. y ∷ ys) (ap (λ t. cond t x (look vs xs other v)) ((Decides-eqb v v).1 refl))
    (map_same (look (v ∷ vs) (x ∷ xs) other) (look vs xs other) vs
    (λ w i. ap (λ t. cond t x (look vs xs other w)) (ne_eqb w v (λ e. once.0 (subst (λ z. IsAmong z vs) e i))))
    ∙ look_all vs xs other (omega (arith, len)) once.1)

-- what a gate's operands give it
abbrev pub value_of_gate : (ℕ → Val) → Gate → Val
value_of_gate a g = value_and (literal_value a g.left) (literal_value a g.right)

-- what the gate of a variable has, and else another value
abbrev by_gate : List Gate → (ℕ → Val) → ℕ → Val → Val
by_gate [] a w other = other
by_gate (g ∷ gs) a w other = cond (eqb w g.var) (value_of_gate a g) (by_gate gs a w other)

by_gate_other : (gates : List Gate) (a : ℕ → Val) (w : ℕ) (other : Val) → ¬ IsAmong w (variables_of gates)
    → by_gate gates a w other ≡ other
by_gate_other [] a w other out = refl
by_gate_other (g ∷ gs) a w other out =
    rw (ne_eqb w g.var (λ e. out (inl e))) (by_gate_other gs a w other (λ i. out (inr i)))

stands_there : (gates : List Gate) (i : ℕ) (g : Gate) → i < length gates → get_or gates i g ≡ g
    → IsAmong g.var (variables_of gates)
stands_there [] i g below is = absurd (omega arith)
stands_there (x ∷ xs) zero g below is = inl (ap (λ (z : Gate). z.var) (sym is))
stands_there (x ∷ xs) (suc i) g below is = inr (stands_there xs i g (omega arith) is)

by_gate_here : (gates : List Gate) (a : ℕ → Val) (other : Val) → AreDistinct (variables_of gates) → (i : ℕ) (g : Gate)
    → i < length gates → get_or gates i g ≡ g → by_gate gates a g.var other ≡ value_of_gate a g
by_gate_here [] a other once i g below is = absurd (omega arith)
by_gate_here (x ∷ xs) a other once zero g below is = search rules
by_gate_here (x ∷ xs) a other once (suc i) g below is =
    ap (λ t. cond t (value_of_gate a x) (by_gate xs a g.var other))
    (ne_eqb g.var x.var
    (λ e. once.0 (subst (λ v. IsAmong v (variables_of xs)) e (stands_there xs i g (omega arith) is))))
    ∙ by_gate_here xs a other once.1 i g (omega arith) is

module _ (c : Circuit) (formed : IsWellFormed c) (state given : List Val) where
  abbrev rank : ℕ → ℕ
  rank v = formed.ranked.0 v

  abbrev sources : List ℕ
  sources = c.inputs ++ latch_variables c

  abbrev of_latches : ℕ → Val
  of_latches w = look (latch_variables c) state (λ v. Zero) w

  abbrev of_sources : ℕ → Val
  of_sources w = look c.inputs given of_latches w

  -- the value of what has a rank below the bound
  abbrev value : ℕ → ℕ → Val
  value zero w = of_sources w
  value (suc bound) w = by_gate c.gates (value bound) w (of_sources w)

  abbrev assigned : ℕ → Val
  assigned v = value (suc (rank v)) v

  at_source : (bound w : ℕ) → ¬ IsAmong w (variables_of c.gates) → value bound w ≡ of_sources w
  at_source zero w out = refl
  at_source (suc bound) w out = by_gate_other c.gates (value bound) w (of_sources w) out

  at_gate : (bound : ℕ) (g : Gate) → Contains c.gates g → value (suc bound) g.var ≡ value_of_gate (value bound) g
  at_gate bound g g_in = search (rules, by_gate_here, distinct_back, variables_of)

  same_at_gate : (a b : ℕ → Val) (g : Gate) → ((v : ℕ) → IsAmong v (map variable_of (operands g)) → a v ≡ b v)
      → value_of_gate a g ≡ value_of_gate b g
  same_at_gate a b g same = search (rules, same_literal)

  -- an operand of a gate that is a gate's too has a lower rank
  lower : (g : Gate) → Contains c.gates g → (w : ℕ) → IsAmong w (map variable_of (operands g))
      → IsAmong w (variables_of c.gates) → rank w < rank g.var
  lower g g_in w used among = search (rules, gate_named)

  -- any bound above the rank gives the same value
  settled : (m n v : ℕ) → rank v < m → rank v < n → value m v ≡ value n v
  settled zero n v below below_too = absurd (omega arith)
  settled (suc m) zero v below below_too = absurd (omega arith)
  settled (suc m) (suc n) v below below_too =
      ⊎_elim (λ (among : IsAmong v (variables_of c.gates)).
      let named = gate_named v c.gates among in
      let same_rank : rank v ≡ rank (named.0).var = ap rank named.2 in
      subst (λ w. value (suc m) w ≡ value (suc n) w) (sym named.2) (
      at_gate m named.0 named.1
      ∙ same_at_gate (value m) (value n) named.0 (λ w used.
      ⊎_elim (λ (among_too : IsAmong w (variables_of c.gates)).
      let less = lower named.0 named.1 w used among_too in
      settled m n w (omega (arith, less, same_rank, below)) (omega (arith, less, same_rank, below_too)))
      (λ (out : ¬ IsAmong w (variables_of c.gates)). at_source m w out ∙ sym (at_source n w out))
      (among_or_not w (variables_of c.gates)))
      ∙ sym (at_gate n named.0 named.1)))
      (λ (out : ¬ IsAmong v (variables_of c.gates)). at_source (suc m) v out ∙ sym (at_source (suc n) v out))
      (among_or_not v (variables_of c.gates))

  gates_hold : (g : Gate) → Contains c.gates g → Holds assigned g
  gates_hold g g_in =
      at_gate (rank g.var) g g_in
      ∙ same_at_gate (value (rank g.var)) assigned g (λ w used.
      ⊎_elim (λ (among : IsAmong w (variables_of c.gates)).
      settled (rank g.var) (suc (rank w)) w (lower g g_in w used among) (omega arith))
      (λ (out : ¬ IsAmong w (variables_of c.gates)).
      at_source (rank g.var) w out ∙ sym (at_source (suc (rank w)) w out))
      (among_or_not w (variables_of c.gates)))

  no_gate : (v : ℕ) → IsAmong v sources → ¬ IsAmong v (variables_of c.gates)
  no_gate v among = distinct_apart sources (variables_of c.gates) formed.once v among

  once_sources : AreDistinct sources
  once_sources = distinct_front sources (variables_of c.gates) formed.once

  no_input : (v : ℕ) → IsAmong v (latch_variables c) → ¬ IsAmong v c.inputs
  no_input v among = λ i. distinct_apart c.inputs (latch_variables c) once_sources v i among

  -- the constant is no defined variable
  no_constant : ¬ IsAmong 0 (defined_variables c)
  no_constant among = search (rules, each)

  at_constant : assigned 0 ≡ Zero
  at_constant =
      at_source (suc (rank 0)) 0 (λ a. no_constant (among_last sources (variables_of c.gates) 0 a))
      ∙ look_other c.inputs given of_latches 0
      (λ a. no_constant (among_front 0 sources (variables_of c.gates) (among_front 0 c.inputs (latch_variables c) a)))
      ∙ look_other (latch_variables c) state (λ v. Zero) 0
      (λ a. no_constant (among_front 0 sources (variables_of c.gates) (among_last c.inputs (latch_variables c) 0 a)))

  at_inputs : length given ≡ length c.inputs → map assigned c.inputs ≡ given
  at_inputs as_long =
      map_same assigned of_sources c.inputs
      (λ v among. at_source (suc (rank v)) v (no_gate v (among_front v c.inputs (latch_variables c) among)))
      ∙ look_all c.inputs given of_latches as_long (distinct_front c.inputs (latch_variables c) once_sources)

  at_latches : length state ≡ length c.latches → map assigned (latch_variables c) ≡ state
  at_latches as_long =
      map_same assigned of_latches (latch_variables c) (λ v among.
      at_source (suc (rank v)) v (no_gate v (among_last c.inputs (latch_variables c) v among))
      ∙ look_other c.inputs given of_latches v (no_input v among))
      ∙ look_all (latch_variables c) state (λ v. Zero)
      (omega (arith, as_long, length-map c.latches (λ (l : Latch). l.var)))
      (distinct_back c.inputs (latch_variables c) once_sources)

  pub an_assignment : length state ≡ length c.latches → length given ≡ length c.inputs
      → (a : ℕ → Val) × IsStepAssignment c state given a
  an_assignment as_long as_long_too = search (rules, at_constant, at_inputs, at_latches, gates_hold)

pub one_step_assignment : OneStepAssignment
one_step_assignment c state given formed as_long as_long_too =
    let a = an_assignment c formed state given as_long as_long_too in
    (a.0, a.1, λ b is v among. assignments_agree c state given b a.0 formed is a.1 v among)
