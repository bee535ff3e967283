-- Which gates depend on a cycle: those that the least ready order does not have.
use Rattle.std.proofs.Common.{◌≡◌, ◌<◌, ◌≤◌, ◌+◌, ◌-◌, ◌*◌, ◌∷◌, ◌++◌, ◌&&◌, ◌∙◌, ◌⊎◌, ◌↔◌, rules, ℕ, zero, suc, List}
use Rattle.std.proofs.Common.{[], Bool, true, false, not, cond, Option, None, Some, length, map, get_or, refl, sym, ap}
use Rattle.std.proofs.Common.{subst, inl, inr, ⊎_elim, arith, find, position, option_map, lt-ltb}
use Rattle.std.specs.List.{AllByRecursion, list_all}
use Rattle.aig_circuit.specs.declared.circuit.Gate.{Gate}
use Rattle.aig_circuit.specs.declared.circuit.Circuit.{Circuit}
use Rattle.aig_circuit.specs.declared.circuit.Latch.{Latch}
use Rattle.aig_circuit.specs.declared.circuit.TheConstants.{LARGEST}
use Rattle.aig_circuit.specs.Form.{IsInForm}
use Rattle.aig_circuit.specs.Wellformed.{IsAmong, AreDistinct}
use Rattle.aig_topo.specs.Order.{gate_operands, IsReady, TakesLeast, IsFull, IsLeastReadyOrder, ends_within}
use Rattle.aig_topo.specs.Order.{depends_on_cycle, first_cyclic}
use Rattle.aig_circuit.proofs.Checking.{each, at_most_below}
use Rattle.aig_topo.proofs.Ordering.Ranked.{over_one, all_of, no_gate, at, needed, stands_there}
use Rattle.std.proofs.lemmas.List.Folds.{find_at}
use Rattle.std.proofs.lemmas.Bool.{cases_lt}
use Rattle.std.proofs.lemmas.List.Sums.{position_or_len_is, fails_before_first}
use Rattle.std.proofs.lemmas.List.Quantifiers.{position-Some}
use Rattle.std.proofs.lemmas.Option.{slice_get-get_or}

pub and_left : (a b : Bool) → (a && b) ≡ true → a ≡ true
and_left true b h = refl
and_left false b h = cc

pub and_right : (a b : Bool) → (a && b) ≡ true → b ≡ true
and_right true b h = h
and_right false b h = cc

and_both : (a b : Bool) → a ≡ true → b ≡ true → (a && b) ≡ true
and_both true b h k = k
and_both false b h k = cc

pub all_true : (p : ℕ → Bool) (xs : List ℕ) → ((x : ℕ) → IsAmong x xs → p x ≡ true) → list_all p xs ≡ true
all_true p [] h = refl
all_true p (x ∷ xs) h = and_both (p x) (list_all p xs) (h x (inl refl)) (all_true p xs (λ y a. h y (inr a)))

pub each_true : (p : ℕ → Bool) (xs : List ℕ) → list_all p xs ≡ true → (x : ℕ) → IsAmong x xs → p x ≡ true
each_true p [] h x a = absurd a
each_true p (y ∷ ys) h x a =
    ⊎_elim (λ (e : x ≡ y). rw e (and_left (p y) (list_all p ys) h))
    (λ (later : IsAmong x ys). each_true p ys (and_right (p y) (list_all p ys) h) x later) a

module _ (gates : List Gate) where
  -- what ends ends within more gates too
  one_more : (n g : ℕ) → ends_within n gates g ≡ true → ends_within (suc n) gates g ≡ true
  unfolding ends_within
  one_more zero g h = cc
  one_more (suc n) g h =
      all_true (ends_within (suc n) gates) (gate_operands gates g)
      (λ x a. one_more n x (each_true (ends_within n gates) (gate_operands gates g) h x a))

  many_more : (k n g : ℕ) → ends_within n gates g ≡ true → ends_within (n + k) gates g ≡ true
  many_more zero n g h = subst (λ m. ends_within m gates g ≡ true) (omega arith) h
  many_more (suc k) n g h =
      subst (λ m. ends_within m gates g ≡ true) (omega arith) (many_more k (suc n) g (one_more n g h))

  abbrev count : ℕ
  count = length gates

  -- what is taken ends, within as many gates as were taken
  listed_ends : (taken xs : List ℕ) → TakesLeast count (gate_operands gates) taken xs → AreDistinct taken
      → AllByRecursion (λ g. g < count) taken
      → ((h : ℕ) → IsAmong h taken → ends_within (length taken) gates h ≡ true) → (h : ℕ)
      → (IsAmong h taken ⊎ IsAmong h xs) → ends_within count gates h ≡ true
  unfolding ends_within
  listed_ends taken [] in_turn once below ends h listed =
      ⊎_elim (λ (a : IsAmong h taken).
      subst (λ m. ends_within m gates h ≡ true) (omega (arith, at_most_below count taken once below))
      (many_more (count - length taken) (length taken) h (ends h a)))
      (λ (n : ⊥). absurd n) listed
  listed_ends taken (x ∷ xs) in_turn once below ends h listed =
      let ready : IsReady count (gate_operands gates) taken x = in_turn.0 in
      listed_ends (x ∷ taken) xs in_turn.2 (ready.left, once) (ready.there, below)
      (search (rules, all_true, each, one_more))
      h (search rules)

  -- what ends is listed, where no gate can be added
  ended_listed : (list : List ℕ) → IsFull count (gate_operands gates) list → (n g : ℕ) → g < count
      → ends_within n gates g ≡ true → IsAmong g list
  unfolding ends_within
  ended_listed list full zero g there h = cc
  ended_listed list full (suc n) g there h =
      full g there (all_of (λ h. IsAmong h list) (gate_operands gates g)
      (λ i a. ended_listed list full n i (over_one gates g i there a).0
      (each_true (ends_within n gates) (gate_operands gates g) h i a)))

pub ordered_exactly_where_it_ends : (c : Circuit) (list : List ℕ) → IsLeastReadyOrder c list
    → (gate : ℕ) → gate < length c.gates → IsAmong gate list ↔ (ends_within (length c.gates) c.gates gate ≡ true)
ordered_exactly_where_it_ends c list order gate there = (
  λ a. listed_ends c.gates [] list order.in_turn tt tt (λ h n. absurd n) gate (inr a),
  ended_listed c.gates list order.full (length c.gates) gate there,
)

-- how a list is looked through
pub find_none : (p : Gate → Bool) (gs : List Gate) → ((i : ℕ) → i < length gs → p (get_or gs i no_gate) ≡ false)
    → find p gs ≡ None
find_none p [] h = refl
find_none p (g ∷ gs) h =
    ap (λ b. cond b (Some g) (find p gs)) (h 0 (omega arith)) ∙ find_none p gs (λ i l. h (suc i) (omega arith))

none_found : (p : Gate → Bool) (gs : List Gate) → find p gs ≡ None → (i : ℕ) → i < length gs
    → p (get_or gs i no_gate) ≡ false
none_found p [] h i l = absurd (omega arith)
none_found p (g ∷ gs) h zero l =
    elim (p g) as (λ b. cond b (Some g) (find p gs) ≡ None → b ≡ false) [
      | true ↦ λ n. cc
      | false ↦ λ n. refl
    ] h
none_found p (g ∷ gs) h (suc i) l =
    none_found p gs (search rules) i (omega arith)

none_mapped : (o : Option Gate) → option_map (λ (g : Gate). 2 * g.var) o ≡ None → o ≡ None
none_mapped None h = refl
none_mapped (Some g) h = cc

not_false : (b : Bool) → not b ≡ false → b ≡ true
not_false true h = refl
not_false false h = cc

module _ (gates : List Gate) (list : List ℕ) (order_full : IsFull (length gates) (gate_operands gates) list)
    (order_in_turn : TakesLeast (length gates) (gate_operands gates) [] list) where
  depends_where : (i : ℕ) → i < length gates
      → depends_on_cycle gates (at gates i) ≡ not (ends_within (suc (length gates)) gates i)
  unfolding ends_within
  depends_where i there = ap (λ xs. not (list_all (ends_within (length gates) gates) xs)) (sym (needed gates i there))

  -- a gate of the order depends on no cycle
  pub free : (i : ℕ) → i < length gates → IsAmong i list → depends_on_cycle gates (at gates i) ≡ false
  free i there listed =
      depends_where i there ∙ ap not
      (one_more gates (length gates) i
      (listed_ends gates [] list order_in_turn tt tt (λ h n. absurd n) i (inr listed)))

  -- and the other way round
  pub placed_where_free : (i : ℕ) → i < length gates → depends_on_cycle gates (at gates i) ≡ false → IsAmong i list
  placed_where_free i there h = search (rules, ended_listed, not_false, depends_where)

  pub none_cyclic : ((i : ℕ) → i < length gates → IsAmong i list) → first_cyclic gates ≡ None
  none_cyclic all = search (rules, find_none, free)

  pub all_listed_where_none : first_cyclic gates ≡ None → (i : ℕ) → i < length gates → IsAmong i list
  all_listed_where_none h i there =
      placed_where_free i there
      (none_found (depends_on_cycle gates) gates (none_mapped (find (depends_on_cycle gates) gates) h) i there)

none_before : {X : Type 0} (p : X → Bool) (xs : List X) (d : X) → position p xs ≡ None → (k : ℕ) → k < length xs
    → p (get_or xs k d) ≡ false
none_before p xs d e k below = search (rules, lt-ltb, fails_before_first, cases_lt)

-- the first gate that depends on a cycle, by its position
pub cyclic_there : (gates : List Gate) (i : ℕ) → position (depends_on_cycle gates) gates ≡ Some i
    → (i < length gates) × (first_cyclic gates ≡ Some (2 * (at gates i).var))
cyclic_there gates i e = search (rules, position-Some, no_gate, position_or_len_is, find_at, slice_get-get_or)

pub cyclic_nowhere_there : (gates : List Gate) → position (depends_on_cycle gates) gates ≡ None
    → first_cyclic gates ≡ None
cyclic_nowhere_there gates e =
    ap (option_map (λ (g : Gate). 2 * g.var))
    (find_none (depends_on_cycle gates) gates (none_before (depends_on_cycle gates) gates no_gate e))

pub among_last : (xs ys : List ℕ) (x : ℕ) → IsAmong x ys → IsAmong x (xs ++ ys)
among_last [] ys x a = a
among_last (z ∷ xs) ys x a = inr (among_last xs ys x a)

-- the first gate that is left is the first that depends on a cycle
module _ (gates : List Gate) (list : List ℕ) (full : IsFull (length gates) (gate_operands gates) list)
    (in_turn : TakesLeast (length gates) (gate_operands gates) [] list) (p : ℕ) (there : p < length gates)
    (left : ¬ IsAmong p list) (before : (g : ℕ) → g < p → IsAmong g list) where
  depends : depends_on_cycle gates (at gates p) ≡ true
  depends =
      elim (depends_on_cycle gates (at gates p)) as (λ b. depends_on_cycle gates (at gates p) ≡ b → b ≡ true) [
        | true ↦ λ _. refl
        | false ↦ λ e. absurd (left (placed_where_free gates list full in_turn p there e))
      ] refl

  pub cyclic_where : first_cyclic gates ≡ Some (2 * (at gates p).var)
  cyclic_where = search (rules, position_or_len_is, no_gate, free, depends, find_at, slice_get-get_or)

-- a gate's variable is one that a circuit in form may define
pub in_bounds : (c : Circuit) → IsInForm c → (p : ℕ) → p < length c.gates → (at c.gates p).var ≤ LARGEST
in_bounds c form p there =
    let defined = among_last (c.inputs ++ map (λ (l : Latch). l.var) c.latches) (map (λ (g : Gate). g.var) c.gates)
    (at c.gates p).var (stands_there c.gates p there) in search (rules, at, each)
