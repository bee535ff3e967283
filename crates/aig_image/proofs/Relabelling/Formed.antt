-- A well-formed circuit stays well formed by other variables from which there is a way back.
use Rattle.std.proofs.Common.{◌≡◌, ◌+◌, ◌*◌, ◌/◌, ◌%◌, ◌<◌, ◌≤◌, ◌∷◌, ◌++◌, ◌∙◌, rules, ℕ, zero, suc, List, [], map}
use Rattle.std.proofs.Common.{Option, refl, sym, ap, subst, inl, inr, ⊎_elim, arith}
use Rattle.std.specs.List.{AllByRecursion, concat, flat_map, Contains}
use Rattle.std.proofs.lemmas.List.{map-append, length-map}
use Rattle.std.proofs.lemmas.Simd.{map-map}
use Rattle.aig_circuit.specs.declared.circuit.Kind.{Kind}
use Rattle.aig_circuit.specs.declared.circuit.Kind.TheVariants as kinds
use Rattle.aig_circuit.specs.declared.circuit.Symbol.{Symbol}
use Rattle.aig_circuit.specs.declared.circuit.Latch.{Latch}
use Rattle.aig_circuit.specs.declared.circuit.Gate.{Gate}
use Rattle.aig_circuit.specs.declared.circuit.Circuit.{Circuit}
use Rattle.aig_circuit.specs.declared.circuit.TheConstants.{LARGEST}
use Rattle.aig_circuit.specs.Literal.{variable_of}
use Rattle.aig_circuit.specs.Wellformed.{IsAmong, AreDistinct, IsKnown, IsRank, IsVariableUpTo, HasGoodSymbols}
use Rattle.aig_circuit.specs.Wellformed.{IsWellFormed, count_of, defined_variables, literal_lists, operands}
use Rattle.aig_circuit.specs.Wellformed.{used_literals}
use Rattle.aig_circuit.proofs.Checking.{joined}
use Rattle.aig_topo.proofs.Ordering.Ranked.{variables}
use Rattle.aig_image.specs.Relabelled.{relabelled_literal, relabelled_latch, relabelled_gate, relabelled, LatchNames}
use Rattle.aig_image.specs.Relabelled.{GateNames, NamesOnly}
use Rattle.aig_image.proofs.Relabelling.Relabelled.{lists_there}

-- the symbols of a circuit are good in another that has as much of each kind
module _ (c d : Circuit) (same : (k : Kind) → count_of c k ≡ count_of d k) where
  positions_there : (ss : List Symbol) → AllByRecursion (λ (s : Symbol). s.position < count_of c s.kind) ss
      → AllByRecursion (λ (s : Symbol). s.position < count_of d s.kind) ss
  positions_there [] all = tt
  positions_there (s ∷ ss) all = (subst (λ n. s.position < n) (same s.kind) all.0, positions_there ss all.1)

  pub symbols_kept : c.symbols ≡ d.symbols → HasGoodSymbols c → HasGoodSymbols d
  symbols_kept are good = search (rules, positions_there)

-- no symbol names a gate, or a comment
pub counts_kept : (max_var : ℕ) (gates : List Gate) (comment : Option (List ℕ)) (c : Circuit) (k : Kind)
    → count_of c k ≡ count_of (record c { max_var = max_var; gates = gates; comment = comment }) k
counts_kept max_var gates comment c kinds.Input = refl
counts_kept max_var gates comment c kinds.Latch = refl
counts_kept max_var gates comment c kinds.Output = refl
counts_kept max_var gates comment c kinds.Bad = refl
counts_kept max_var gates comment c kinds.Constraint = refl
counts_kept max_var gates comment c kinds.Justice = refl
counts_kept max_var gates comment c kinds.Fairness = refl

module _ {X Y : Type 0} where
  -- what holds of elements, for what holds of those that a map gives
  pub all_through : (P : X → Type 0) (Q : Y → Type 0) (h : X → Y) → ((x : X) → P x → Q (h x))
      → (xs : List X) → AllByRecursion P xs → AllByRecursion Q (map h xs)
  all_through P Q h follows [] all = tt
  all_through P Q h follows (x ∷ xs) all = (follows x all.0, all_through P Q h follows xs all.1)

  -- what a mapped list contains was made of an element
  made_of : (P : X → Type 0) (h : X → Y) (xs : List X) (y : Y) → AllByRecursion P xs → Contains (map h xs) y
      → (x : X) × Contains xs x × P x × (h x ≡ y)
  made_of P h [] y all (k, below, is) = absurd (omega (arith, below))
  made_of P h (x ∷ xs) y all (zero, below, is) = (x, (zero, omega arith, refl), all.0, is)
  made_of P h (x ∷ xs) y all (suc k, below, is) =
      let later = made_of P h xs y all.1 (k, omega (arith, below), is) in
      let within = later.1.1 in
      (later.0, (suc later.1.0, omega (arith, within), later.1.2), later.2, later.3)

abbrev latch_variables : List Latch → List ℕ
latch_variables ls = map (λ (l : Latch). l.var) ls

-- what holds of the names holds of what is defined
defined_have : (P : ℕ → Type 0) (c : Circuit) → NamesOnly P c → AllByRecursion P (defined_variables c)
defined_have P c names =
    joined P (c.inputs ++ latch_variables c.latches) (variables c.gates)
    (joined P c.inputs (latch_variables c.latches) names.inputs
    (all_through (LatchNames P) P (λ (l : Latch). l.var) (λ l e. e.0) c.latches names.latches))
    (all_through (GateNames P) P (λ (g : Gate). g.var) (λ g e. e.0) c.gates names.gates)

-- a map over three lists end to end
map_three : (h : ℕ → ℕ) (xs ys zs : List ℕ) → map h (xs ++ ys ++ zs) ≡ map h xs ++ map h ys ++ map h zs
map_three h xs ys zs = map-append h (xs ++ ys) zs ∙ ap (λ ws. ws ++ map h zs) (map-append h xs ys)

module _ (f : ℕ → ℕ) where
  pub variable_there : (l : ℕ) → variable_of (relabelled_literal f l) ≡ f (variable_of l)
  variable_there l = let n : ℕ = f (variable_of l) in let half : (2 * n + l % 2) / 2 ≡ n = omega arith in half

  -- the variables of latches, by other variables
  pub latches_there : (ls : List Latch) → latch_variables (map (relabelled_latch f) ls) ≡ map f (latch_variables ls)
  latches_there ls = map-map (λ (l : Latch). l.var) (relabelled_latch f) ls ∙ sym (map-map f (λ (l : Latch). l.var) ls)

  pub gates_there : (gs : List Gate) → variables (map (relabelled_gate f) gs) ≡ map f (variables gs)
  gates_there gs = map-map (λ (g : Gate). g.var) (relabelled_gate f) gs ∙ sym (map-map f (λ (g : Gate). g.var) gs)

  pub defined_relabelled : (c : Circuit) → defined_variables (relabelled f c) ≡ map f (defined_variables c)
  defined_relabelled c = search (rules, latches_there, gates_there, map_three, variables)

  operands_relabelled : (gs : List Gate)
      → flat_map operands (map (relabelled_gate f) gs) ≡ map (relabelled_literal f) (flat_map operands gs)
  operands_relabelled [] = refl
  operands_relabelled (g ∷ gs) = search (rules, operands_relabelled gs)

  -- lists that are mapped each by itself, or joined first
  joined_either_way : (lists : List (List ℕ))
      → concat (map (map (relabelled_literal f)) lists) ≡ map (relabelled_literal f) (concat lists)
  joined_either_way [] = refl
  joined_either_way (ls ∷ lists) = search (rules, map-append, joined_either_way lists)

  listed_relabelled : (c : Circuit)
      → concat (literal_lists (relabelled f c)) ≡ map (relabelled_literal f) (concat (literal_lists c))
  listed_relabelled c = ap concat (lists_there f c) ∙ joined_either_way (literal_lists c)

  used_relabelled : (c : Circuit) → used_literals (relabelled f c) ≡ map (relabelled_literal f) (used_literals c)
  used_relabelled c = search (rules, map-map, operands_relabelled, listed_relabelled, map_three)

  pub among_there : (v : ℕ) (xs : List ℕ) → IsAmong v xs → IsAmong (f v) (map f xs)
  among_there v [] a = absurd a
  among_there v (x ∷ xs) a = ⊎_elim (λ (e : v ≡ x). inl (ap f e)) (λ (i : IsAmong v xs). inr (among_there v xs i)) a

  known_there : f 0 ≡ 0 → (vs : List ℕ) (l : ℕ) → IsKnown vs l → IsKnown (map f vs) (relabelled_literal f l)
  known_there constant vs l known = search (rules, variable_there, among_there)

module _ (f g : ℕ → ℕ) where
  abbrev Back : ℕ → Type 0
  Back v = g (f v) ≡ v

  -- names that go back are one where their new names are
  one : (v w : ℕ) → Back v → Back w → f v ≡ f w → v ≡ w
  one v w v_back w_back e = sym v_back ∙ ap g e ∙ w_back

  among_back : (v : ℕ) (xs : List ℕ) → Back v → AllByRecursion Back xs → IsAmong (f v) (map f xs) → IsAmong v xs
  among_back v [] back all a = absurd a
  among_back v (x ∷ xs) back all a =
      ⊎_elim (λ (e : f v ≡ f x). inl (one v x back all.0 e))
      (λ (i : IsAmong (f v) (map f xs)). inr (among_back v xs back all.1 i)) a

  once_there : (xs : List ℕ) → AllByRecursion Back xs → AreDistinct xs → AreDistinct (map f xs)
  once_there [] all once = tt
  once_there (x ∷ xs) all once = (λ a. once.0 (among_back x xs all.0 all.1 a), once_there xs all.1 once.1)

  ranked_pair : (rank : ℕ → ℕ) (a b : Gate) → GateNames Back a → GateNames Back b
      → (IsAmong b.var (map variable_of (operands a)) → rank b.var < rank a.var)
      → IsAmong (f b.var) (map variable_of (operands (relabelled_gate f a))) → rank (g (f b.var)) < rank (g (f a.var))
  ranked_pair rank a b a_back b_back below among = search rules

  ranked_there : (rank : ℕ → ℕ) (gates : List Gate) → AllByRecursion (GateNames Back) gates
      → IsRank rank gates → IsRank (λ v. rank (g v)) (map (relabelled_gate f) gates)
  ranked_there rank gates all ranks x y x_in y_in =
      let a = made_of (GateNames Back) (relabelled_gate f) gates x all x_in in
      let b = made_of (GateNames Back) (relabelled_gate f) gates y all y_in in
      search (rules, ranked_pair)

same_counts : (f : ℕ → ℕ) (c : Circuit) (k : Kind) → count_of c k ≡ count_of (relabelled f c) k
same_counts f c kinds.Input = sym (length-map c.inputs f)
same_counts f c kinds.Latch = sym (length-map c.latches (relabelled_latch f))
same_counts f c kinds.Output = sym (length-map c.outputs (relabelled_literal f))
same_counts f c kinds.Bad = sym (length-map c.bad (relabelled_literal f))
same_counts f c kinds.Constraint = sym (length-map c.constraints (relabelled_literal f))
same_counts f c kinds.Justice = refl
same_counts f c kinds.Fairness = sym (length-map c.fairness (relabelled_literal f))

pub form_is_kept : (f g : ℕ → ℕ) (max_var : ℕ) (comment : Option (List ℕ)) (c : Circuit) → IsWellFormed c
    → f 0 ≡ 0 → NamesOnly (λ v. g (f v) ≡ v) c → max_var ≤ LARGEST
    → AllByRecursion (λ v. IsVariableUpTo max_var (f v)) (defined_variables c)
    → IsWellFormed (record (relabelled f c) { max_var = max_var; comment = comment })
form_is_kept f g max_var comment c good constant back low range =
    let new : Circuit = record (relabelled f c) { max_var = max_var; comment = comment } in
    let vs : List ℕ = defined_variables c in
    let defined = sym (defined_relabelled f c) in
    let literals = relabelled_literal f in
    let fits : AllByRecursion (IsVariableUpTo max_var) (map f vs) =
    search (rules, all_through) in
    record {
      limits = search (rules, length-map, all_through);
      in_range = subst (AllByRecursion (IsVariableUpTo max_var)) defined fits;
      once = subst AreDistinct defined (once_there f g vs (defined_have (λ v. g (f v) ≡ v) c back) good.once);
      known =
          subst (λ ds. AllByRecursion (IsKnown ds) (used_literals (relabelled f c))) defined
          (subst (AllByRecursion (IsKnown (map f vs))) (sym (used_relabelled f c))
          (search (rules, all_through, known_there)));
      symbols = symbols_kept c new (same_counts f c) refl good.symbols;
      ranked = (λ v. good.ranked.0 (g v), ranked_there f g good.ranked.0 c.gates back.gates good.ranked.1);
    }
