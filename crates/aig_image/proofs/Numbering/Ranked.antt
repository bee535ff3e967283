-- Numbers that are kept under other variables are the numbers, where each variable has another one of its own.
use Rattle.std.proofs.Common.{◌≡◌, ◌≢◌, ◌<◌, ◌≤◌, ◌+◌, ◌∷◌, ◌++◌, ◌∙◌, rules, ℕ, zero, suc, List, [], cond, eqb}
use Rattle.std.proofs.Common.{length, get_or, take, drop, map, ap, ap₂, arith, refl, sym, subst, ⊎_elim, append_assoc}
use Rattle.std.proofs.Common.{inl, inr, ltb, take-append-drop, true, false, Some}
use Rattle.std.specs.List.{AllByRecursion, position_or_len}
use Rattle.std.proofs.lemmas.Bool.{ne_eqb, eq-eqb}
use Rattle.std.proofs.lemmas.Bool.Decides.{eqb_tells}
use Rattle.std.proofs.lemmas.Grind.{common_steps}
use Rattle.std.proofs.lemmas.List.{map-append, length-map, get_or-map, take-map}
use Rattle.std.proofs.lemmas.Simd.{map-map}
use Rattle.aig_circuit.specs.Literal.{variable_of}
use Rattle.aig_circuit.specs.Wellformed.{IsAmong, IsKnown, AreDistinct}
use Rattle.aig_circuit.specs.declared.circuit.Gate.{Gate}
use Rattle.aig_circuit.specs.declared.circuit.Latch.{Latch}
use Rattle.aig_circuit.specs.declared.circuit.TheConstants.{LARGEST}
use Rattle.aig_circuit.proofs.Checking.{each, joined}
use Rattle.aig_tables.specs.Parts.Ranks.{is_announced, rank_of}
use Rattle.aig_tables.proofs.Tables.Ranks.{one_rank, rank_below}
use Rattle.aig_topo.proofs.Ordering.Counted.{among_first}
use Rattle.aig_topo.proofs.Ordering.Ranked.{at, no_gate, variables}
use Rattle.aig_image.specs.declared.ranked.VariableRanks.{VariableRanks}
use Rattle.aig_image.specs.Parts.InOrder.{StandInOrder}
use Rattle.aig_image.specs.declared.numbers.Numbers.{Numbers}
use Rattle.aig_image.specs.Parts.InTurn.{numbered_gate, DefineApart, AreMadeOf, AreMadeInTurn}
use Rattle.aig_image.specs.Parts.Numbers.{number_in}
use Rattle.aig_image.specs.Parts.Ranked.{rank_label, HasRank}
use Rattle.aig_image.specs.Relabelled.{relabelled_gate, relabelled_literal, FitIntoLiterals}
use Rattle.aig_image.specs.Renumbering.{renumbered}
use Rattle.aig_image.specs.Reordered.{operands_sorted}
use Rattle.aig_image.proofs.Relabelling.Formed.{variable_there, gates_there, all_through}
use Rattle.aig_image.proofs.Relabelling.Relabelled.{gate_twice, same_gate, map_twice}

module _ (f : ℕ → ℕ) where
  -- what has the name of a variable of the list is this variable
  abbrev pub AreApart : List ℕ → Type 0
  AreApart xs = (x v : ℕ) → IsAmong x xs → f x ≡ f v → x ≡ v

  place_kept : (xs : List ℕ) (v : ℕ) → AreApart xs
      → position_or_len (λ w. eqb w (f v)) (map f xs) ≡ position_or_len (λ w. eqb w v) xs
  place_kept [] v apart = refl
  place_kept (x ∷ xs) v apart =
      let later = place_kept xs v (λ y w a. apart y w (inr a)) in
      ⊎_elim
      (λ (t : (eqb x v ≡ true) × (x ≡ v)). let same = eq-eqb (f x) (f v) (ap f t.1) in rw (same, t.0) refl)
      (λ (n : (eqb x v ≡ false) × (x ≢ v)).
      let differ = ne_eqb (f x) (f v) (λ e. n.1 (apart x v (inl refl) e)) in
      rw (differ, n.0) (ap (λ p. 1 + p) later))
      (eqb_tells x v)

  pub number_kept : (xs : List ℕ) (v : ℕ) → AreApart xs → number_in (map f xs) (f v) ≡ number_in xs v
  number_kept xs v apart = ap₂ (λ p n. cond (ltb p n) (1 + p) 0) (place_kept xs v apart) (length-map xs f)

  among_kept : (xs : List ℕ) (v : ℕ) → AreApart xs → IsAmong (f v) (map f xs) → IsAmong v xs
  among_kept [] v apart a = absurd a
  among_kept (x ∷ xs) v apart a =
      ⊎_elim (λ (e : f v ≡ f x). inl (sym (apart x v (inl refl) (sym e))))
      (λ (i : IsAmong (f v) (map f xs)). inr (among_kept xs v (λ y w b. apart y w (inr b)) i)) a

  pub distinct_kept : (xs : List ℕ) → AreApart xs → AreDistinct xs → AreDistinct (map f xs)
  distinct_kept [] apart once = tt
  distinct_kept (x ∷ xs) apart once =
      let later : AreApart xs = λ y w a. apart y w (inr a) in
      (λ a. once.0 (among_kept xs x later a), distinct_kept xs later once.1)

  module _ (constant : f 0 ≡ 0) (zero : (v : ℕ) → f v ≡ 0 → v ≡ 0) where
    renumbered_kept : (xs : List ℕ) (v : ℕ) → AreApart xs → renumbered (map f xs) (f v) ≡ renumbered xs v
    renumbered_kept xs v apart =
        ⊎_elim (λ (t : (eqb v 0 ≡ true) × (v ≡ 0)).
        let same = eq-eqb (f v) 0 (ap f t.1 ∙ constant) in rw (same, t.0) refl)
        (λ (n : (eqb v 0 ≡ false) × (v ≢ 0)).
        let differ = ne_eqb (f v) 0 (λ e. n.1 (zero v e)) in
        rw (differ, n.0) (ap (λ p. 1 + p) (place_kept xs v apart)))
        (eqb_tells v 0)

    pub gate_kept : (xs : List ℕ) (g : Gate) → AreApart xs
        → numbered_gate (renumbered (map f xs)) (relabelled_gate f g) ≡ numbered_gate (renumbered xs) g
    gate_kept xs g apart =
        let number : ℕ → ℕ = renumbered (map f xs) in
        let kept = λ (v : ℕ). renumbered_kept xs v apart in
        ap operands_sorted (gate_twice f number g
        ∙ same_gate (λ v. number (f v)) (renumbered xs) g
        (kept g.var, kept (variable_of g.left), kept (variable_of g.right)))

    known_kept : (xs : List ℕ) (l : ℕ) → AreApart xs → IsKnown (map f xs) (relabelled_literal f l) → IsKnown xs l
    known_kept xs l apart known =
        let named = rw (variable_there f l) at known in
        ⊎_elim (λ (e : f (variable_of l) ≡ 0). inl (zero (variable_of l) e))
        (λ (a : IsAmong (f (variable_of l)) (map f xs)). inr (among_kept xs (variable_of l) apart a)) named

    -- gates that stand in order by other names do so by their own
    module _ (before : List ℕ) (gates : List Gate) (apart : AreApart (before ++ variables gates)) where
      abbrev named : List Gate
      named = map (relabelled_gate f) gates

      -- what is defined before a gate
      abbrev before_gate : ℕ → List ℕ
      before_gate k = before ++ variables (take k gates)

      cut : (k : ℕ) → before ++ variables gates ≡ before_gate k ++ variables (drop k gates)
      cut k =
          ap (λ xs. before ++ variables xs) (sym (take-append-drop k gates)) ∙ search (rules, map-append, append_assoc)

      apart_before : (k : ℕ) → AreApart (before_gate k)
      apart_before k x v a =
          apart x v (subst (IsAmong x) (sym (cut k)) (among_first x (before_gate k) (variables (drop k gates)) a))

      names_before : (k : ℕ) → map f before ++ variables (take k named) ≡ map f (before_gate k)
      names_before k = search (rules, map-append, gates_there, take-map)

      pub stand_kept : StandInOrder (map f before) named → StandInOrder before gates
      stand_kept stand k there =
          let gate : Gate = at gates k in
          let fits : k < length named = omega (arith, there, length-map gates (relabelled_gate f)) in
          let read : get_or named k no_gate ≡ relabelled_gate f gate =
          get_or-map (relabelled_gate f) gates k no_gate no_gate there in
          let known = rw (names_before k) at (rw read at (stand k fits)) in
          let kept = λ (l : ℕ). known_kept (before_gate k) l (apart_before k) in
          (kept gate.left known.0, (kept gate.right known.1.0, tt))

-- what holds of the first ones, and of one more
pub all_more : {X : Type 0} (P : X → Type 0) (xs : List X) (i : ℕ) (x : X) → i < length xs → x ≡ get_or xs i x
    → AllByRecursion P (take i xs) → P x → AllByRecursion P (take (i + 1) xs)
all_more P [] i x there is all one = absurd (omega (arith, there))
all_more P (y ∷ xs) zero x there is all one = (subst P is one, tt)
all_more P (y ∷ xs) (suc i) x there is all one =
    let next : suc (i + 1) ≡ suc i + 1 = omega arith in
    subst (λ k. AllByRecursion P (take k (y ∷ xs))) next
    (all.0, all_more P xs i x (omega (arith, there)) is all.1 one)

-- the ranks of inputs and latches, one after the other
pub first_ranks : (f : ℕ → ℕ) (inputs : List ℕ) (latches : List Latch) (none some more : List ℕ) → none ≡ []
    → some ≡ none ++ map (λ v. f v) inputs → more ≡ some ++ map (λ (l : Latch). f l.var) latches
    → more ≡ map f (inputs ++ map (λ (l : Latch). l.var) latches)
first_ranks f inputs latches none some more nothing is are = search (rules, map-append, map-map)

pub first_have : (P : ℕ → Type 0) (inputs : List ℕ) (latches : List Latch) → AllByRecursion (λ v. P v) inputs
    → AllByRecursion (λ (l : Latch). P l.var) latches
    → AllByRecursion P (inputs ++ map (λ (l : Latch). l.var) latches)
first_have P inputs latches of_inputs of_latches =
    joined P inputs (map (λ (l : Latch). l.var) latches) of_inputs
    (all_through (λ (l : Latch). P l.var) P (λ (l : Latch). l.var) (λ l h. h) latches of_latches)

-- Ranks are such names.
module _ (r : VariableRanks) where
  abbrev f : ℕ → ℕ
  f = rank_label r.ranks

  pub constant_first : f 0 ≡ 0
  constant_first = rw r.constant refl

  pub constant_alone : (v : ℕ) → f v ≡ 0 → v ≡ 0
  constant_alone v e = grind (arith, common_steps, e)

  announced : (v : ℕ) → 1 ≤ f v → HasRank r.ranks v → is_announced r.ranks.words.items v ≡ true
  announced v some has = grind (arith, common_steps, some, has)

  pub one_name : (x v : ℕ) → 1 ≤ x → HasRank r.ranks x → f x ≡ f v → x ≡ v
  one_name x v some has same =
      let no_constant : f x ≢ 0 = λ e. let z = constant_alone x e in omega (arith, some, z) in
      let x_some : 1 ≤ f x = omega (arith, no_constant) in
      let x_told = announced x x_some has in
      let v_told = announced v (omega (arith, x_some, same)) (omega (arith, has, same)) in
      let ranks : rank_of r.ranks.words.items x ≡ rank_of r.ranks.words.items v =
      omega (arith, rw (x_told, v_told) at same) in
      one_rank r.ranks.words.items r.ranks.count r.ranks.ranking x v x_told v_told ranks

  pub rank_fits : (v : ℕ) → is_announced r.ranks.words.items v ≡ true → 1 + rank_of r.ranks.words.items v ≤ LARGEST
  rank_fits v told =
      let below = rank_below r.ranks.words.items r.ranks.count r.ranks.ranking v told in
      omega (arith, below, r.few)

  pub names_fit : FitIntoLiterals f
  names_fit v =
      let below = rank_below r.ranks.words.items r.ranks.count r.ranks.ranking v in
      grind (arith, common_steps, below, r.few)

  -- gates by ranks, of which each variable has one
  module _ (before : List ℕ) (gates : List Gate) (first : AllByRecursion (HasRank r.ranks) before)
      (have : AllByRecursion (λ (g : Gate). HasRank r.ranks g.var) gates) (defined : DefineApart before gates) where
    abbrev all_variables : List ℕ
    all_variables = before ++ variables gates

    all_have : AllByRecursion (HasRank r.ranks) all_variables
    all_have =
        joined (HasRank r.ranks) before (variables gates) first
        (all_through (λ (g : Gate). HasRank r.ranks g.var) (HasRank r.ranks) (λ (g : Gate). g.var) (λ g h. h) gates
        have)

    names_apart : AreApart f all_variables
    names_apart x v a =
        one_name x v (each (λ v. 1 ≤ v) all_variables defined.some x a)
        (each (HasRank r.ranks) all_variables all_have x a)

    names_are : map f before ++ variables (map (relabelled_gate f) gates) ≡ map f all_variables
    names_are = search (rules, map-append, gates_there)

    named_some : (v : ℕ) → 1 ≤ v → 1 ≤ f v
    named_some v some =
        let no_constant : f v ≢ 0 = λ e. let z = constant_alone v e in omega (arith, some, z) in
        omega (arith, no_constant)

    pub named_apart : DefineApart (map f before) (map (relabelled_gate f) gates)
    named_apart = record {
      few = omega (arith, defined.few, length-map before f, length-map gates (relabelled_gate f));
      once = rw names_are (distinct_kept f all_variables names_apart defined.once);
      some = rw names_are (all_through (λ v. 1 ≤ v) (λ v. 1 ≤ v) f named_some all_variables defined.some);
    }

    pub named_made : (news : List Gate) (n : Numbers) → AreMadeOf (map f before) (map (relabelled_gate f) gates) news n
        → AreMadeInTurn before gates news (record { ranks = Some r; numbers = n })
    named_made news n made =
        record {
          count = made.numbers.count ∙ ap length names_are ∙ length-map all_variables f;
          numbers = λ v.
              made.numbers.numbers (f v)
              ∙ ap (λ xs. number_in xs (f v)) names_are
              ∙ number_kept f all_variables v names_apart;
          in_order = stand_kept f constant_first constant_alone before gates names_apart made.in_order;
          made =
              made.made
              ∙ ap (λ xs. map (numbered_gate (renumbered xs)) (map (relabelled_gate f) gates)) names_are
              ∙ map_twice (relabelled_gate f) (numbered_gate (renumbered (map f all_variables)))
              (numbered_gate (renumbered all_variables))
              (λ g. gate_kept f constant_first constant_alone all_variables g names_apart) gates;
        }
