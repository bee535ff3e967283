-- The miter with equal starts of two well-formed circuits is well formed.
use Rattle.std.proofs.Common.{◌≡◌, ◌+◌, ◌*◌, ◌≤◌, ◌++◌, ◌∙◌, ℕ, List, [], ◌∷◌, ap, ap₂, append-nil, append_assoc}
use Rattle.std.proofs.Common.{arith, inl, inr, length, length-append, map, refl, subst, sym, ⊎_elim}
use Rattle.std.specs.List.{AllByRecursion, concat, flat_map}
use Rattle.std.proofs.lemmas.List.{map-append}
use Rattle.aig_circuit.specs.declared.circuit.Circuit.{Circuit}
use Rattle.aig_circuit.specs.declared.circuit.Gate.{Gate}
use Rattle.aig_circuit.specs.declared.circuit.Latch.{Latch}
use Rattle.aig_circuit.specs.declared.circuit.Reset.{Reset}
use Rattle.aig_circuit.specs.declared.circuit.Reset.TheVariants as resets
use Rattle.aig_circuit.specs.Literal.{literal_of, negation_of, variable_of}
use Rattle.aig_circuit.specs.Wellformed.{AreDistinct, IsAmong, IsVariableUpTo, IsWellFormed, defined_variables}
use Rattle.aig_circuit.specs.Wellformed.{largest_index, literal_lists, operands, used_literals}
use Rattle.aig_circuit.proofs.Checking.{all_weaker, back, definitions_fit, each, front, joined}
use Rattle.aig_topo.proofs.Ordering.Counted.{among_either, among_first}
use Rattle.aig_topo.proofs.Ordering.Cyclic.{among_last}
use Rattle.aig_meaning.specs.Meaning.{latch_variables, next_literals}
use Rattle.aig_meaning.proofs.Related.{AreDefined, IsDefined, distinct_apart, distinct_front, variables_of}
use Rattle.aig_miter.specs.Miter.{differences, differing}
use Rattle.aig_miter.specs.Starts.{free_among, free_only, gates_with, negations, with_equal_starts}
use Rattle.aig_miter.proofs.Formed.Beside.{all_from, distinct_back, distinct_joined, known_there}
use Rattle.aig_miter.proofs.Formed.Compared.{HasGrown, pairs_grown, still_all, with_pairs}
use Rattle.aig_unroll.proofs.Growing.{distinct_behind, gate_formed, gate_known, known_still, negation_known, with_gate}
use Rattle.aig_miter.proofs.Sizes.{differences_min}

-- ---- a latch more

-- the circuit with a latch that is 0 in the first step, and 1 in each later one
abbrev with_latch : Circuit → Circuit
with_latch m = record m {
  max_var = m.max_var + 1;
  latches = m.latches ++ record { var = m.max_var + 1; next = 1; reset = resets.Zero } ∷ [];
}

module _ (m : Circuit) (good : IsWellFormed m) (nameless : m.symbols ≡ []) (room : m.max_var + 1 ≤ largest_index) where
  abbrev top : ℕ
  top = m.max_var + 1

  abbrev latch : Latch
  latch = record { var = top; next = 1; reset = resets.Zero }

  abbrev d : Circuit
  d = with_latch m

  abbrev lv : List ℕ
  lv = latch_variables m

  abbrev gv : List ℕ
  gv = variables_of m.gates

  abbrev vs : List ℕ
  vs = defined_variables m

  defined_now : defined_variables d ≡ ((m.inputs ++ lv) ++ top ∷ []) ++ gv
  defined_now =
      ap (λ (xs : List ℕ). (m.inputs ++ xs) ++ gv) (map-append (λ (l : Latch). l.var) m.latches (latch ∷ []))
      ∙ ap (λ (xs : List ℕ). xs ++ gv) (sym (append_assoc m.inputs lv (top ∷ [])))

  low : (v : ℕ) → IsAmong v vs → IsVariableUpTo m.max_var v
  low v a = each (IsVariableUpTo m.max_var) vs good.in_range v a

  no_top : ¬ IsAmong top vs
  no_top a = let range = low top a in omega (arith, range.1)

  once_front : AreDistinct ((m.inputs ++ lv) ++ top ∷ [])
  once_front =
      distinct_behind (m.inputs ++ lv) top (distinct_front (m.inputs ++ lv) gv good.once)
      (λ a. no_top (among_first top (m.inputs ++ lv) gv a))

  once_now : AreDistinct (((m.inputs ++ lv) ++ top ∷ []) ++ gv)
  once_now =
      distinct_joined ((m.inputs ++ lv) ++ top ∷ []) gv once_front (distinct_back (m.inputs ++ lv) gv good.once)
      (λ v a b. ⊎_elim (λ (x : IsAmong v (m.inputs ++ lv)). distinct_apart (m.inputs ++ lv) gv good.once v x b)
      (λ (y : IsAmong v (top ∷ [])).
      ⊎_elim (λ (e : v ≡ top). no_top (among_last (m.inputs ++ lv) gv top (subst (λ x. IsAmong x gv) e b)))
      (λ (none : ⊥). none) y)
      (among_either v (m.inputs ++ lv) (top ∷ []) a))

  into_front : (v : ℕ) → IsAmong v ((m.inputs ++ lv) ++ top ∷ []) → IsAmong v (((m.inputs ++ lv) ++ top ∷ []) ++ gv)
  into_front v a = among_first v ((m.inputs ++ lv) ++ top ∷ []) gv a

  stays : (v : ℕ) → IsAmong v vs → IsAmong v (defined_variables d)
  stays v a =
      subst (IsAmong v) (sym defined_now)
      (⊎_elim (λ (x : IsAmong v (m.inputs ++ lv)). into_front v (among_first v (m.inputs ++ lv) (top ∷ []) x))
      (λ (y : IsAmong v gv). among_last ((m.inputs ++ lv) ++ top ∷ []) gv v y)
      (among_either v (m.inputs ++ lv) gv a))

  top_there : IsAmong top (defined_variables d)
  top_there =
      subst (IsAmong top) (sym defined_now)
      (into_front top (among_last (m.inputs ++ lv) (top ∷ []) top (inl refl)))

  still : (l : ℕ) → IsDefined m l → IsDefined d l
  still l known = known_there vs (defined_variables d) stays l known

  wider : (v : ℕ) → IsAmong v vs → IsVariableUpTo top v
  wider v a = let range = low v a in (range.0, omega (arith, range.1))

  in_range_now : AllByRecursion (IsVariableUpTo top) (((m.inputs ++ lv) ++ top ∷ []) ++ gv)
  in_range_now =
      joined (IsVariableUpTo top) ((m.inputs ++ lv) ++ top ∷ []) gv
      (joined (IsVariableUpTo top) (m.inputs ++ lv) (top ∷ [])
      (all_from (IsVariableUpTo top) (m.inputs ++ lv) (λ v a. wider v (among_first v (m.inputs ++ lv) gv a)))
      ((omega arith, omega arith), tt))
      (all_from (IsVariableUpTo top) gv (λ v a. wider v (among_last (m.inputs ++ lv) gv v a)))

  known_now : AllByRecursion (IsDefined d) (used_literals d)
  known_now =
      let P = IsDefined d in
      let lists = concat (literal_lists m) in
      let used = flat_map operands m.gates in
      let all = all_weaker (IsDefined m) P still (used_literals m) good.known in
      let outside = front P (next_literals m ++ lists) used all in
      joined P (next_literals d ++ lists) used
      (joined P (next_literals d) lists
      (subst (AllByRecursion P) (sym (map-append (λ (l : Latch). l.next) m.latches (latch ∷ [])))
      (joined P (next_literals m) (1 ∷ []) (front P (next_literals m) lists outside) (inl refl, tt)))
      (back P (next_literals m) lists outside))
      (back P (next_literals m ++ lists) used all)

  pub latch_grown : HasGrown m d (negation_of (literal_of top) ∷ [])
  latch_grown = record {
    formed = record {
      limits = record {
        max_var = room;
        inputs = good.limits.inputs;
        latches = omega (arith, length-append m.latches (latch ∷ []), definitions_fit m good, room);
        literals = good.limits.literals;
        justice = good.limits.justice;
        sizes = good.limits.sizes;
        gates = good.limits.gates;
      };
      in_range = subst (AllByRecursion (IsVariableUpTo top)) (sym defined_now) in_range_now;
      once = subst AreDistinct (sym defined_now) once_now;
      known = known_now;
      symbols = record {
        positions = rw nameless tt;
        apart = rw nameless tt;
        lines = rw nameless tt;
      };
      ranked = good.ranked;
    };
    still = still;
    known = (negation_known (defined_variables d) (literal_of top) known_top, tt);
  } where
    same : variable_of (literal_of top) ≡ top
    same = omega arith

    known_top : IsDefined d (literal_of top)
    known_top = inr (subst (λ v. IsAmong v (defined_variables d)) (sym same) top_there)

-- ---- a gate for each literal

abbrev with_each : ℕ → List ℕ → Circuit → Circuit
with_each literal ds c = record c {
  max_var = c.max_var + length ds;
  gates = c.gates ++ gates_with (c.max_var + 1) literal ds;
}

none_more : (literal : ℕ) (c : Circuit) → with_each literal [] c ≡ c
none_more literal c =
    let many : c.max_var + 0 ≡ c.max_var = omega arith in
    ap₂ (λ (n : ℕ) (gs : List Gate). record c { max_var = n; gates = gs }) many (append-nil c.gates)

one_more : (literal x : ℕ) (xs : List ℕ) (c : Circuit)
    → with_each literal xs (with_gate literal x c) ≡ with_each literal (x ∷ xs) c
one_more literal x xs c =
    let many : c.max_var + 1 + length xs ≡ c.max_var + length (x ∷ xs) = omega arith in
    ap₂ (λ (n : ℕ) (gs : List Gate). record c { max_var = n; gates = gs }) many (simp append_assoc)

each_grown : (literal : ℕ) (ds : List ℕ) (c : Circuit) → IsWellFormed c → c.max_var + length ds ≤ largest_index
    → IsDefined c literal → AreDefined c ds
    → HasGrown c (with_each literal ds c) (negations (c.max_var + 1) ds)
each_grown literal [] c good room known known_too =
    subst (λ (d : Circuit). HasGrown c d []) (sym (none_more literal c))
    (record { formed = good; still = λ l is. is; known = tt })
each_grown literal (x ∷ xs) c good room known known_too =
    let next = with_gate literal x c in
    let first_room : c.max_var + 1 ≤ largest_index = omega (arith, room) in
    let next_good = gate_formed c good literal x first_room known known_too.0 in
    let next_still = known_still c good literal x first_room known known_too.0 in
    let gate = gate_known c good literal x first_room known known_too.0 in
    let rest = each_grown literal xs next next_good (omega (arith, room)) (next_still literal known)
    (still_all c next next_still xs known_too.1) in
    subst (λ (d : Circuit). HasGrown c d (negations (c.max_var + 1) (x ∷ xs))) (one_more literal x xs c)
    (record {
      formed = rest.formed;
      still = λ l is. rest.still l (next_still l is);
      known = (
        rest.still (negation_of (literal_of (c.max_var + 1)))
            (negation_known (defined_variables next) (literal_of (c.max_var + 1)) gate),
        rest.known,
      );
    })

-- ---- constraints more

abbrev with_constraints : List ℕ → Circuit → Circuit
with_constraints new c = record c { constraints = c.constraints ++ new }

constraints_formed : (c : Circuit) (new : List ℕ) → IsWellFormed c → c.symbols ≡ [] → AreDefined c new
    → length (c.constraints ++ new) ≤ largest_index → IsWellFormed (with_constraints new c)
constraints_formed c new good nameless known few =
    let P = IsDefined c in
    let behind = c.justice.literals ∷ c.fairness ∷ [] in
    let used = flat_map operands c.gates in
    let nexts_and_lists : AreDefined c (next_literals c ++ concat (literal_lists c)) =
    front P (next_literals c ++ concat (literal_lists c)) used good.known in
    let lists : AreDefined c (concat (literal_lists c)) =
    back P (next_literals c) (concat (literal_lists c)) nexts_and_lists in
    let after_outputs = back P c.outputs (c.bad ++ (c.constraints ++ concat behind)) lists in
    let after_bad = back P c.bad (c.constraints ++ concat behind) after_outputs in
    record {
      limits = record {
        max_var = good.limits.max_var;
        inputs = good.limits.inputs;
        latches = good.limits.latches;
        literals = (good.limits.literals.0, (good.limits.literals.1.0, (few, good.limits.literals.1.1.1)));
        justice = good.limits.justice;
        sizes = good.limits.sizes;
        gates = good.limits.gates;
      };
      in_range = good.in_range;
      once = good.once;
      known =
          joined P (next_literals c ++ concat (literal_lists (with_constraints new c))) used
          (joined P (next_literals c) (concat (literal_lists (with_constraints new c)))
          (front P (next_literals c) (concat (literal_lists c)) nexts_and_lists)
          (joined P c.outputs (c.bad ++ ((c.constraints ++ new) ++ concat behind))
          (front P c.outputs (c.bad ++ (c.constraints ++ concat behind)) lists)
          (joined P c.bad ((c.constraints ++ new) ++ concat behind)
          (front P c.bad (c.constraints ++ concat behind) after_outputs)
          (joined P (c.constraints ++ new) (concat behind)
          (joined P c.constraints new (front P c.constraints (concat behind) after_bad) known)
          (back P c.constraints (concat behind) after_bad)))))
          (back P (next_literals c ++ concat (literal_lists c)) used good.known);
      symbols = record {
        positions = rw nameless tt;
        apart = rw nameless tt;
        lines = rw nameless tt;
      };
      ranked = good.ranked;
    }

-- ---- equal starts

module _ (xs ys : List ℕ) (m : Circuit) (good : IsWellFormed m) (nameless : m.symbols ≡ [])
    (known : AreDefined m xs) (known_too : AreDefined m ys)
    (room : (with_equal_starts xs ys m).max_var ≤ largest_index)
    (few : length (with_equal_starts xs ys m).constraints ≤ largest_index) where
  abbrev later : ℕ
  later = m.max_var + 1

  abbrev unequal : List ℕ
  unequal = differences (later + 1) xs ys

  abbrev n : ℕ
  n = length unequal

  abbrev not_later : ℕ
  not_later = negation_of (literal_of later)

  abbrev latched : Circuit
  latched = with_latch m

  with_one : HasGrown m latched (not_later ∷ [])
  with_one = latch_grown m good nameless (omega (arith, room))

  abbrev paired : Circuit
  paired = with_pairs n xs ys latched

  compared : HasGrown latched paired unequal
  compared =
      pairs_grown n xs ys latched with_one.formed (sym (differences_min (later + 1) xs ys)) (omega (arith, room))
      (still_all m latched with_one.still xs known) (still_all m latched with_one.still ys known_too)

  abbrev gated : Circuit
  gated = with_each not_later unequal paired

  asked : HasGrown paired gated (negations (paired.max_var + 1) unequal)
  asked =
      each_grown not_later unequal paired compared.formed (omega (arith, room))
      (compared.still not_later with_one.known.0) compared.known

  first_is : paired.max_var + 1 ≡ later + 1 + 3 * n
  first_is = omega arith

  last_is : gated.max_var ≡ later + 4 * n
  last_is = omega arith

  gates_are : gated.gates ≡ (with_equal_starts xs ys m).gates
  gates_are =
      append_assoc m.gates (differing (later + 1) xs ys) (gates_with (paired.max_var + 1) not_later unequal)
      ∙ ap (λ (k : ℕ). m.gates ++ (differing (later + 1) xs ys ++ gates_with k not_later unequal)) first_is

  as_many : length (m.constraints ++ negations (paired.max_var + 1) unequal)
      ≡ length (with_equal_starts xs ys m).constraints
  as_many = ap (λ (k : ℕ). length (m.constraints ++ negations k unequal)) first_is

  whole : with_constraints (negations (paired.max_var + 1) unequal) gated ≡ with_equal_starts xs ys m
  whole =
      ap (λ (k : ℕ). record (with_constraints (negations (paired.max_var + 1) unequal) gated) { max_var = k }) last_is
      ∙ ap₂ (λ (k : ℕ) (gs : List Gate).
      record (with_equal_starts xs ys m) { gates = gs; constraints = m.constraints ++ negations k unequal })
      first_is gates_are

  pub equal_starts_formed : IsWellFormed (with_equal_starts xs ys m)
  equal_starts_formed =
      subst IsWellFormed whole
      (constraints_formed gated (negations (paired.max_var + 1) unequal) asked.formed nameless asked.known
      (omega (arith, as_many, few)))

-- ---- uninitialised latches are defined

free_all : (P : ℕ → Type 0) (rs : List Reset) (xs : List ℕ) → AllByRecursion P xs → AllByRecursion P (free_only rs xs)
free_all P [] xs all = tt
free_all P (r ∷ rs) [] all = tt
free_all P (resets.Zero ∷ rs) (x ∷ xs) all = free_all P rs xs all.1
free_all P (resets.One ∷ rs) (x ∷ xs) all = free_all P rs xs all.1
free_all P (resets.Uninit ∷ rs) (x ∷ xs) all = (all.0, free_all P rs xs all.1)

defined_literals : (m : Circuit) (vs : List ℕ) → AllByRecursion (λ v. IsAmong v (latch_variables m)) vs
    → AreDefined m (map literal_of vs)
defined_literals m [] all = tt
defined_literals m (v ∷ vs) all = (
  inr (subst (λ x. IsAmong x (defined_variables m)) (sym same)
      (among_first v (m.inputs ++ latch_variables m) (variables_of m.gates)
      (among_last m.inputs (latch_variables m) v all.0))),
  defined_literals m vs all.1,
) where
  same : variable_of (literal_of v) ≡ v
  same = omega arith

pub free_defined : (m : Circuit) (ls : List Latch)
    → ((v : ℕ) → IsAmong v (map (λ (l : Latch). l.var) ls) → IsAmong v (latch_variables m))
    → AreDefined m (free_among ls)
free_defined m ls there =
    let vs = map (λ (l : Latch). l.var) ls in
    defined_literals m (free_only (map (λ (l : Latch). l.reset) ls) vs)
    (free_all (λ v. IsAmong v (latch_variables m)) (map (λ (l : Latch). l.reset) ls) vs
    (all_from (λ v. IsAmong v (latch_variables m)) vs there))
