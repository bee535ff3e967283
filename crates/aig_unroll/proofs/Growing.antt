-- A well-formed circuit that grows by gates over what it defines, or by such literals, is well formed.
use Rattle.std.proofs.Common.{◌≡◌, ◌<◌, ◌≤◌, ◌+◌, ◌%◌, ◌++◌, ◌∷◌, ℕ, List, [], ap, arith, inl, inr, length, ⊎_elim}
use Rattle.std.proofs.Common.{append_assoc, length-append, map, max, min, nat_le, refl, subst, sym, zero, suc}
use Rattle.std.proofs.Common.{if◌then◌else◌, get_or, rules}
use Rattle.std.proofs.lemmas.Bool.{cases_lt}
use Rattle.std.specs.List.{AllByRecursion, Contains}
use Rattle.std.proofs.lemmas.Grind.{flat_map-append}
use Rattle.std.proofs.lemmas.List.{map-append}
use Rattle.std.proofs.lemmas.List.Elements.{Contains-append_cases}
use Rattle.aig_circuit.specs.declared.circuit.Circuit.{Circuit}
use Rattle.aig_circuit.specs.declared.circuit.Gate.{Gate}
use Rattle.aig_circuit.specs.declared.circuit.Kind.{Kind}
use Rattle.aig_circuit.specs.declared.circuit.Symbol.{Symbol}
use Rattle.aig_circuit.specs.declared.circuit.Kind.TheVariants as kinds
use Rattle.aig_circuit.specs.Literal.{literal_of, negation_of, variable_of}
use Rattle.aig_circuit.specs.Wellformed.{AreDistinct, IsAmong, IsKnown, IsRank, IsVariableUpTo, IsWellFormed, count_of}
use Rattle.aig_circuit.specs.Wellformed.{defined_variables, largest_index, operands, used_literals}
use Rattle.aig_circuit.proofs.Checking.{all_weaker, definitions_fit, each, joined}
use Rattle.aig_topo.proofs.Ordering.Counted.{among_first, among_either}
use Rattle.aig_topo.proofs.Ordering.Cyclic.{among_last}
use Rattle.aig_meaning.proofs.Related.{IsDefined, known_operands, variables_of}
use Rattle.aig_unroll.specs.Unrolled.{gate_of}

pub distinct_behind : (xs : List ℕ) (v : ℕ) → AreDistinct xs → ¬ IsAmong v xs → AreDistinct (xs ++ v ∷ [])
distinct_behind [] v once fresh = (λ a. absurd a, tt)
distinct_behind (x ∷ xs) v once fresh = (
  λ a. ⊎_elim (λ (b : IsAmong x xs). once.0 b)
      (λ (b : IsAmong x (v ∷ [])).
      ⊎_elim (λ (e : x ≡ v). fresh (inl (sym e))) (λ (none : ⊥). absurd none) b)
      (among_either x xs (v ∷ []) a),
  distinct_behind xs v once.1 (λ a. fresh (inr a)),
)

known_behind : (vs ws : List ℕ) (l : ℕ) → IsKnown vs l → IsKnown (vs ++ ws) l
known_behind vs ws l known =
    ⊎_elim (λ (e : variable_of l ≡ 0). inl e)
    (λ (a : IsAmong (variable_of l) vs). inr (among_first (variable_of l) vs ws a)) known

-- a gate's variable stands among those of the gates
named : (gates : List Gate) (g : Gate) → Contains gates g → IsAmong g.var (variables_of gates)
named gates g is = at gates is.0 is.1 is.2 where
  at : (gs : List Gate) (i : ℕ) → i < length gs → get_or gs i g ≡ g → IsAmong g.var (variables_of gs)
  at [] i below same = absurd (omega arith)
  at (x ∷ xs) zero below same = inl (ap (λ (h : Gate). h.var) (sym same))
  at (x ∷ xs) (suc i) below same = inr (at xs i (omega arith) same)

-- symbols fit where there are as many of each kind, or more
pub all_fit : (c d : Circuit) → ((kind : Kind) → count_of c kind ≤ count_of d kind) → (ss : List Symbol)
    → AllByRecursion (λ (s : Symbol). s.position < count_of c s.kind) ss
    → AllByRecursion (λ (s : Symbol). s.position < count_of d s.kind) ss
all_fit c d more [] fit = tt
all_fit c d more (s ∷ ss) fit = (omega (arith, fit.0, more s.kind), all_fit c d more ss fit.1)

-- what holds of both holds of the larger and of the smaller
of_larger : (P : ℕ → Type 0) (a b : ℕ) → P a → P b → P (max a b)
of_larger P a b of_a of_b = elim (cases_lt a b) [
  | inl less ↦ let e : max a b ≡ b = omega arith in rw e of_b
  | inr more ↦ let e : max a b ≡ a = omega arith in rw e of_a
]

of_smaller : (P : ℕ → Type 0) (a b : ℕ) → P a → P b → P (min a b)
of_smaller P a b of_a of_b = elim (cases_lt a b) [
  | inl less ↦ let e : min a b ≡ a = omega arith in rw e of_a
  | inr more ↦ let e : min a b ≡ b = omega arith in rw e of_b
]

-- a rank that is as before up to an index, and then this
abbrev ranked_on : (ℕ → ℕ) → ℕ → ℕ → ℕ → ℕ
ranked_on rank n top x = if nat_le x n then rank x else top

stays : (rank : ℕ → ℕ) (n top x : ℕ) → x ≤ n → ranked_on rank n top x ≡ rank x
stays rank n top x low = search (rules, cases_lt)

is_top : (rank : ℕ → ℕ) (n top x : ℕ) → n < x → ranked_on rank n top x ≡ top
is_top rank n top x high = search (rules, cases_lt)

-- the circuit with one gate more
abbrev pub with_gate : ℕ → ℕ → Circuit → Circuit
with_gate a b c = record c { max_var = c.max_var + 1; gates = c.gates ++ gate_of (c.max_var + 1) a b ∷ [] }

-- a literal that is known is over a variable up to the largest index
low_known : (c : Circuit) → IsWellFormed c → (l : ℕ) → IsDefined c l → variable_of l ≤ c.max_var
low_known c good l known =
    ⊎_elim (λ (e : variable_of l ≡ 0). omega (arith, e))
    (λ (a : IsAmong (variable_of l) (defined_variables c)).
    let range : IsVariableUpTo c.max_var (variable_of l) =
    each (IsVariableUpTo c.max_var) (defined_variables c) good.in_range (variable_of l) a in omega (arith, range.1))
    known

-- ---- a gate

module _ (c : Circuit) (good : IsWellFormed c) (a b : ℕ) (room : c.max_var + 1 ≤ largest_index)
    (a_known : IsDefined c a) (b_known : IsDefined c b) where
  abbrev top : ℕ
  top = c.max_var + 1

  abbrev gate : Gate
  gate = gate_of top a b

  defined_now : defined_variables (with_gate a b c) ≡ defined_variables c ++ top ∷ []
  defined_now = simp (map-append, append_assoc)

  used_now : used_literals (with_gate a b c) ≡ used_literals c ++ operands gate
  used_now = simp (flat_map-append, append_assoc)

  fresh : ¬ IsAmong top (defined_variables c)
  fresh a =
      let range : IsVariableUpTo c.max_var top =
      each (IsVariableUpTo c.max_var) (defined_variables c) good.in_range top a in
      omega (arith, range.1)

  -- the variables of gates that there were are up to the largest index
  low_gate : (g : Gate) → Contains c.gates g → g.var ≤ c.max_var
  low_gate g is =
      let among : IsAmong g.var (defined_variables c) =
      among_last (c.inputs ++ map (λ l. l.var) c.latches) (variables_of c.gates) g.var (named c.gates g is) in
      let range : IsVariableUpTo c.max_var g.var =
      each (IsVariableUpTo c.max_var) (defined_variables c) good.in_range g.var among in range.1

  -- an operand of a gate that there was is over such a variable too
  low_operand : (g : Gate) → Contains c.gates g → (v : ℕ) → IsAmong v (map variable_of (operands g)) → v ≤ c.max_var
  low_operand g is v among =
      let known = known_operands c good g is in
      ⊎_elim (λ (e : v ≡ variable_of g.left). omega (arith, e, low_known c good g.left known.0))
      (λ (later : IsAmong v (variable_of g.right ∷ [])).
      ⊎_elim (λ (e : v ≡ variable_of g.right). omega (arith, e, low_known c good g.right known.1))
      (λ (none : ⊥). absurd none) later) among

  module _ (rank : ℕ → ℕ) (is_rank : IsRank rank c.gates) where
    abbrev above : ℕ
    above = 1 + (rank (variable_of a) + rank (variable_of b))

    abbrev rank_now : ℕ → ℕ
    rank_now = ranked_on rank c.max_var above

    -- a number that is one of the new gate's operands is up to the largest index and has a lower rank
    abbrev IsBelow : ℕ → Type 0
    IsBelow v = (v ≤ c.max_var) × (rank v < above)

    below_literal : (v : ℕ) → IsAmong v (map variable_of (operands gate)) → IsBelow v
    below_literal v among =
        let P : ℕ → Type 0 = λ l. IsBelow (variable_of l) in
        let of_a : P a = (low_known c good a a_known, omega arith) in
        let of_b : P b = (low_known c good b b_known, omega arith) in
        ⊎_elim (λ (e : v ≡ variable_of gate.left). subst IsBelow (sym e) (of_larger P a b of_a of_b))
        (λ (later : IsAmong v (variable_of gate.right ∷ [])).
        ⊎_elim (λ (e : v ≡ variable_of gate.right). subst IsBelow (sym e) (of_smaller P a b of_a of_b))
        (λ (none : ⊥). absurd none) later) among

    one_gate : (g : Gate) → Contains (gate ∷ []) g → g ≡ gate
    one_gate g (zero, below, same) = sym same
    one_gate g (suc i, below, same) = absurd (omega (arith, below))

    of_old : (g h : Gate) → Contains c.gates g → Contains (c.gates ++ gate ∷ []) h
        → IsAmong h.var (map variable_of (operands g)) → rank_now h.var < rank_now g.var
    of_old g h g_in h_in among =
        let low = low_operand g g_in h.var among in
        ⊎_elim (λ (old : Contains c.gates h).
        rw (stays rank c.max_var above h.var low, stays rank c.max_var above g.var (low_gate g g_in))
        (is_rank g h g_in old among))
        (λ (new : Contains (gate ∷ []) h).
        let same : h.var ≡ top = ap (λ (k : Gate). k.var) (one_gate h new) in absurd (omega (arith, same, low)))
        (Contains-append_cases c.gates (gate ∷ []) h h_in)

    of_new : (h : Gate) → IsAmong h.var (map variable_of (operands gate)) → rank_now h.var < rank_now top
    of_new h among =
        let below = below_literal h.var among in
        rw (stays rank c.max_var above h.var below.0, is_top rank c.max_var above top (omega arith)) below.1

    pub ranked_now : IsRank rank_now (c.gates ++ gate ∷ [])
    ranked_now g h g_in h_in among =
        ⊎_elim (λ (old : Contains c.gates g). of_old g h old h_in among)
        (λ (new : Contains (gate ∷ []) g).
        let same = one_gate g new in
        subst (λ (k : Gate). rank_now h.var < rank_now k.var) (sym same)
        (of_new h (subst (λ (k : Gate). IsAmong h.var (map variable_of (operands k))) same among)))
        (Contains-append_cases c.gates (gate ∷ []) g g_in)

  pub gate_formed : IsWellFormed (with_gate a b c)
  gate_formed = record {
    limits = record {
      max_var = room;
      inputs = good.limits.inputs;
      latches = good.limits.latches;
      literals = good.limits.literals;
      justice = good.limits.justice;
      sizes = good.limits.sizes;
      gates = omega (arith, length-append c.gates (gate ∷ []), definitions_fit c good, room);
    };
    in_range = subst (AllByRecursion (IsVariableUpTo top)) (sym defined_now)
        (joined (IsVariableUpTo top) (defined_variables c) (top ∷ [])
        (all_weaker (IsVariableUpTo c.max_var) (IsVariableUpTo top) (λ v range. (range.0, omega (arith, range.1)))
        (defined_variables c) good.in_range)
        ((omega arith, omega arith), tt));
    once = subst AreDistinct (sym defined_now) (distinct_behind (defined_variables c) top good.once fresh);
    known = subst (λ vs. AllByRecursion (IsKnown vs) (used_literals (with_gate a b c))) (sym defined_now)
        (subst (AllByRecursion (IsKnown (defined_variables c ++ top ∷ []))) (sym used_now)
        (joined (IsKnown (defined_variables c ++ top ∷ [])) (used_literals c) (operands gate)
        (all_weaker (IsKnown (defined_variables c)) (IsKnown (defined_variables c ++ top ∷ []))
        (known_behind (defined_variables c) (top ∷ [])) (used_literals c) good.known) (
          known_behind (defined_variables c) (top ∷ []) (max a b) (of_larger (IsDefined c) a b a_known b_known),
          (known_behind (defined_variables c) (top ∷ []) (min a b) (of_smaller (IsDefined c) a b a_known b_known), tt),
        )));
    symbols = record {
      positions = all_fit c (with_gate a b c) same_counts c.symbols good.symbols.positions;
      apart = good.symbols.apart;
      lines = good.symbols.lines;
    };
    ranked = (rank_now good.ranked.0 good.ranked.1, ranked_now good.ranked.0 good.ranked.1);
  } where
    same_counts : (kind : Kind) → count_of c kind ≤ count_of (with_gate a b c) kind
    same_counts kinds.Input = omega arith
    same_counts kinds.Latch = omega arith
    same_counts kinds.Output = omega arith
    same_counts kinds.Bad = omega arith
    same_counts kinds.Constraint = omega arith
    same_counts kinds.Justice = omega arith
    same_counts kinds.Fairness = omega arith

  -- what was known stays known, and so is the gate
  pub known_still : (l : ℕ) → IsDefined c l → IsDefined (with_gate a b c) l
  known_still l known =
      subst (λ vs. IsKnown vs l) (sym defined_now) (known_behind (defined_variables c) (top ∷ []) l known)

  pub gate_known : IsDefined (with_gate a b c) (literal_of top)
  gate_known =
      let same : variable_of (literal_of top) ≡ top = omega arith in
      subst (λ vs. IsKnown vs (literal_of top)) (sym defined_now)
      (inr (rw same (among_last (defined_variables c) (top ∷ []) top (inl refl))))

-- ---- literals

negation_variable : (l : ℕ) → variable_of (negation_of l) ≡ variable_of l
negation_variable l = elim (cases_lt 0 (l % 2)) [
  | inl odd ↦ let sign : l % 2 ≡ 1 = omega arith in rw sign (omega arith)
  | inr even ↦ let sign : l % 2 ≡ 0 = omega arith in rw sign (omega arith)
]

pub negation_known : (vs : List ℕ) (l : ℕ) → IsKnown vs l → IsKnown vs (negation_of l)
negation_known vs l known = rw (negation_variable l) known
