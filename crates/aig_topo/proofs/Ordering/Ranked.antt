-- A rank of gates exists exactly where their order has all of them; and what gates need.
use Rattle.std.proofs.Common.{◌≡◌, ◌≢◌, ◌<◌, ◌+◌, ◌∷◌, ◌++◌, ◌∙◌, ◌⊎◌, ◌↔◌, ◌≤◌, rules, ℕ, zero, suc, List, [], Option}
use Rattle.std.proofs.Common.{None, Some, length, map, get_or, cond, eqb, false, refl, sym, ap, subst, inl, inr, ⊎_elim}
use Rattle.std.proofs.Common.{arith, ap₂}
use Rattle.std.specs.List.{AllByRecursion, Contains, count_by, sum, sum_by, flat_map}
use Rattle.std.specs.Option.{option_to_list, option_map_or}
use Rattle.std.proofs.lemmas.Bool.{ne_eqb, lt-ltb, cases_lt}
use Rattle.std.proofs.lemmas.Bool.Decides.{Decides-eqb, eqb_tells}
use Rattle.std.proofs.lemmas.List.{get_or_default, get_or-map, get_or_past, length-map}
use Rattle.std.proofs.lemmas.List.Quantifiers.{position-Some}
use Rattle.std.proofs.lemmas.List.Sums.{position_or_len_is, sum_by-cons, sum_by-append, sum-map}
use Rattle.std.proofs.lemmas.List.Concat.{flat_map-cons}
use Rattle.std.proofs.lemmas.Simd.{map-map}
use mathlib.Core.Path.{fun_ext}
use Rattle.aig_circuit.specs.declared.circuit.Gate.{Gate}
use Rattle.aig_circuit.specs.declared.circuit.Circuit.{Circuit}
use Rattle.aig_circuit.specs.Literal.{variable_of}
use Rattle.aig_circuit.specs.Wellformed.{IsAmong, AreDistinct, HasRank, operands, defined_variables}
use Rattle.aig_circuit.proofs.Checking.{each}
use Rattle.aig_tables.specs.VarMap.{link_to}
use Rattle.aig_topo.specs.Order.{gate_of, gates_under, gate_operands, TakesLeast, IsFull, IsLeastReadyOrder, left_over}
use Rattle.aig_topo.specs.Order.{operands_over}
use Rattle.aig_topo.specs.Progress.{has_gate}
use Rattle.aig_topo.specs.declared.lists.GateNode.{GateNode}
use Rattle.aig_topo.specs.declared.operands.Needs.{Needs}
use Rattle.aig_topo.specs.Lists.{needs_in}
use Rattle.aig_topo.specs.Needs.{linked, needs_of, under, how_many, needs_at, no_needs, AreThere}
use Rattle.aig_topo.proofs.Ordering.LeastReady.{among_or_not, has_or_not}

-- a number, by the gates that it needs
abbrev Ranks : ℕ → (ℕ → List ℕ) → (ℕ → ℕ) → Type 0
Ranks count needs rank = (g h : ℕ) → g < count → IsAmong h (needs g) → rank h < rank g

-- what holds of each holds of all
pub all_of : (P : ℕ → Type 0) (xs : List ℕ) → ((x : ℕ) → IsAmong x xs → P x) → AllByRecursion P xs
all_of P [] each = tt
all_of P (x ∷ xs) each = (each x (inl refl), all_of P xs (λ y a. each y (inr a)))

module _ (count : ℕ) (needs : ℕ → List ℕ) (list : List ℕ) where
  pub all_served : (xs : List ℕ) → ((h : ℕ) → IsAmong h xs → IsAmong h list) → AllByRecursion (λ h. IsAmong h list) xs
  all_served xs serve = all_of (λ h. IsAmong h list) xs serve

  -- where nothing can be added, what has a rank is listed
  all_listed : ((g h : ℕ) → g < count → IsAmong h (needs g) → h < count) → IsFull count needs list → (rank : ℕ → ℕ)
      → Ranks count needs rank → (bound g : ℕ) → rank g < bound → g < count → IsAmong g list
  all_listed within full rank ranks zero g l there = absurd (omega arith)
  all_listed within full rank ranks (suc bound) g l there =
      full g there (all_of (λ h. IsAmong h list) (needs g)
      (λ h used. let lower : rank h < rank g = ranks g h there used in
      all_listed within full rank ranks bound h (omega arith) (within g h there used)))

-- the place of the first such number, counted from k
place : ℕ → List ℕ → ℕ → ℕ
place k [] g = k
place k (x ∷ xs) g = cond (eqb g x) k (place (k + 1) xs g)

place_here : (k x : ℕ) (xs : List ℕ) → place k (x ∷ xs) x ≡ k
unfolding place
place_here k x xs = rw ((Decides-eqb x x).1 refl) refl

place_later : (k x : ℕ) (xs : List ℕ) (g : ℕ) → g ≢ x → place k (x ∷ xs) g ≡ place (k + 1) xs g
unfolding place
place_later k x xs g differs = rw (ne_eqb g x differs) refl

-- What is listed and was not taken before stands after each gate that it needs. at tells the places.
after_needs : (count : ℕ) (needs : ℕ → List ℕ) (at : ℕ → ℕ) (taken xs : List ℕ) (k : ℕ)
    → TakesLeast count needs taken xs → ((h : ℕ) → IsAmong h taken → at h < k)
    → ((h : ℕ) → ¬ IsAmong h taken → at h ≡ place k xs h)
    → (g h : ℕ) → ¬ IsAmong g taken → IsAmong g xs → IsAmong h (needs g) → at h < at g
after_needs count needs at taken [] k in_turn past here g h left listed used = absurd listed
after_needs count needs at taken (x ∷ xs) k in_turn past here g h left listed used =
    ⊎_elim (search (rules, place, place_here, each))
    (λ (f : (eqb g x ≡ false) × (g ≢ x)).
    let later : IsAmong g xs = ⊎_elim (λ (e : g ≡ x). absurd (f.1 e)) (λ (i : IsAmong g xs). i) listed in
    after_needs count needs at (x ∷ taken) xs (k + 1) in_turn.2
    (λ i i_taken. ⊎_elim
    (λ (e : i ≡ x). ⊎_elim (λ (s : IsAmong i taken). omega (arith, past i s))
    (λ (n : ¬ IsAmong i taken).
    omega (arith, here i n ∙ subst (λ z. place k (z ∷ xs) i ≡ k) e (place_here k i xs))) (among_or_not i taken))
    (λ (s : IsAmong i taken). omega (arith, past i s)) i_taken)
    (λ i i_left. here i (λ s. i_left (inr s)) ∙ place_later k x xs i (λ e. i_left (inl e)))
    g h (λ a. ⊎_elim f.1 left a) later used)
    (eqb_tells g x)

abbrev pub no_gate : Gate
no_gate = record { var = 0; left = 0; right = 0 }

-- the positions that two operands tell
told_by_either : (p : ℕ) (a b : Option ℕ) → IsAmong p (option_to_list a ++ option_to_list b)
    → (a ≡ Some p) ⊎ (b ≡ Some p)
told_by_either p None None among = absurd among
told_by_either p None (Some y) among = ⊎_elim (λ (e : p ≡ y). inr (ap Some (sym e))) (λ (n : ⊥). absurd n) among
told_by_either p (Some x) None among = ⊎_elim (λ (e : p ≡ x). inl (ap Some (sym e))) (λ (n : ⊥). absurd n) among
told_by_either p (Some x) (Some y) among =
    ⊎_elim (λ (e : p ≡ x). inl (ap Some (sym e)))
    (λ (later : IsAmong p (y ∷ [])). ⊎_elim (λ (e : p ≡ y). inr (ap Some (sym e))) (λ (n : ⊥). absurd n) later)
    among

told_by_right : (p : ℕ) (a : Option ℕ) → IsAmong p (option_to_list a ++ option_to_list (Some p))
told_by_right p None = inl refl
told_by_right p (Some x) = inr (inl refl)

-- what follows distinct numbers is distinct
pub distinct_back : (xs ys : List ℕ) → AreDistinct (xs ++ ys) → AreDistinct ys
distinct_back [] ys d = d
distinct_back (x ∷ xs) ys d = distinct_back xs ys d.1

abbrev pub variables : List Gate → List ℕ
variables gates = map (λ (g : Gate). g.var) gates

pub stands_there : (gates : List Gate) (i : ℕ) → i < length gates
    → IsAmong (get_or gates i no_gate).var (variables gates)
stands_there [] i below = absurd (omega arith)
stands_there (g ∷ gs) zero below = inl refl
stands_there (g ∷ gs) (suc i) below = inr (stands_there gs i (omega arith))

differ : (gates : List Gate) → AreDistinct (variables gates) → (k i : ℕ) → k < i → i < length gates
    → (get_or gates k no_gate).var ≢ (get_or gates i no_gate).var
differ (g ∷ gs) once zero (suc i) before below e =
    once.0 (rw e (stands_there gs i (omega arith)))
differ (g ∷ gs) once (suc k) (suc i) before below e = differ gs once.1 k i (omega arith) (omega arith) e
differ gates once k i before below e = absurd (omega arith)

module _ (gates : List Gate) where
  abbrev pub at : ℕ → Gate
  at i = get_or gates i no_gate

  pub needed : (g : ℕ) → g < length gates → gate_operands gates g ≡ gates_under gates (at g)
  needed g there = get_or-map (gates_under gates) gates g no_gate [] there

  found : (v p : ℕ) → gate_of gates v ≡ Some p → (p < length gates) × ((at p).var ≡ v)
  found v p e = search (rules, position-Some)

  pub gate_here : AreDistinct (variables gates) → (i : ℕ) → i < length gates → gate_of gates (at i).var ≡ Some i
  gate_here once i there =
      let place_is = position_or_len_is (λ (g : Gate). eqb g.var (at i).var) gates i no_gate (omega arith)
      (λ k before. ne_eqb (at k).var (at i).var (differ gates once k i before there))
      (λ _. (Decides-eqb (at i).var (at i).var).1 refl) in search (rules, lt-ltb)

  -- a gate that is needed is one of an operand's variable
  pub over_one : (g h : ℕ) → g < length gates → IsAmong h (gate_operands gates g)
      → (h < length gates) × IsAmong (at h).var (map variable_of (operands (at g)))
  over_one g h there used =
      ⊎_elim (λ (e : gate_of gates (variable_of (at g).left) ≡ Some h). let f = found _ h e in (f.0, inl f.1))
      (λ (e : gate_of gates (variable_of (at g).right) ≡ Some h). let f = found _ h e in (f.0, inr (inl f.1)))
      (told_by_either h _ _ (rw (needed g there) at used))

  -- and the other way round
  pub needed_by : AreDistinct (variables gates) → (g h : ℕ) → g < length gates → h < length gates
      → IsAmong (at h).var (map variable_of (operands (at g))) → IsAmong h (gate_operands gates g)
  needed_by once g h there there_too among =
      let here : gate_of gates (at h).var ≡ Some h = gate_here once h there_too in
      search (rules, needed, told_by_right)

  module _ (list : List ℕ) (in_turn : TakesLeast (length gates) (gate_operands gates) [] list)
      (full : IsFull (length gates) (gate_operands gates) list) where
    pub listed : HasRank gates → (g : ℕ) → g < length gates → IsAmong g list
    listed ranked g there =
        all_listed (length gates) (gate_operands gates) list (λ i h i_there used. (over_one i h i_there used).0) full
        (λ i. ranked.0 (at i).var)
        (search (rules, over_one, get_or_default))
        (ranked.0 (at g).var + 1) g (omega arith) there

    stands_at : (g : Gate) (g_in : Contains gates g) → at g_in.0 ≡ g
    stands_at g g_in = get_or_default gates g_in.0 no_gate g g_in.1 ∙ g_in.2

    placed : AreDistinct (variables gates) → (g : Gate) (g_in : Contains gates g)
        → option_map_or (place 0 list) (gate_of gates g.var) 0 ≡ place 0 list g_in.0
    placed once g g_in =
        ap (λ o. option_map_or (place 0 list) o 0)
        (ap (λ (x : Gate). gate_of gates x.var) (sym (stands_at g g_in)) ∙ gate_here once g_in.0 g_in.1)

    pub ranked : AreDistinct (variables gates) → ((g : ℕ) → g < length gates → IsAmong g list) → HasRank gates
    ranked once all = (
      λ v. option_map_or (place 0 list) (gate_of gates v) 0,
      λ g h g_in h_in used.
          let used_there = subst (λ (x : Gate). IsAmong x.var (map variable_of (operands (at g_in.0))))
          (sym (stands_at h h_in)) (subst (λ (x : Gate). IsAmong h.var (map variable_of (operands x)))
          (sym (stands_at g g_in)) used) in
          let lower = after_needs (length gates) (gate_operands gates) (place 0 list) [] list 0 in_turn
          (λ i a. absurd a) (λ i n. refl) g_in.0 h_in.0 (λ a. a) (all g_in.0 g_in.1)
          (needed_by once g_in.0 h_in.0 g_in.1 h_in.1 used_there) in
          omega (arith, lower, placed once h h_in, placed once g g_in),
    )

pub rank_exactly_where_all_are_ordered : (c : Circuit) (list : List ℕ) → AreDistinct (defined_variables c)
    → IsLeastReadyOrder c list → HasRank c.gates ↔ ((gate : ℕ) → gate < length c.gates → IsAmong gate list)
rank_exactly_where_all_are_ordered c list once order = (
  listed c.gates list order.in_turn order.full,
  search (rules, ranked, distinct_back),
)

-- Steps of an order: one for each gate that is listed, and one for each operand over it.
module _ (gates : List Gate) (list : List ℕ) where
  abbrev pub waiting_of : Gate → ℕ
  waiting_of g = left_over list (gates_under gates g)

  by_gates : (gs : List Gate)
      → sum_by waiting_of gs + count_by (has_gate list) (flat_map (gates_under gates) gs)
      ≡ sum_by (λ g. length (gates_under gates g)) gs
  by_gates [] = refl
  by_gates (g ∷ gs) =
      let waits : sum_by waiting_of (g ∷ gs) ≡ waiting_of g + sum_by waiting_of gs = sum_by-cons waiting_of g gs in
      let all = sum_by-cons (λ h. length (gates_under gates h)) g gs in
      let has = ap (count_by (has_gate list)) (flat_map-cons (gates_under gates) g gs)
      ∙ sum_by-append (λ h. cond (has_gate list h) 1 0) (gates_under gates g) (flat_map (gates_under gates) gs) in
      omega (arith, waits, all, has, has_or_not list (gates_under gates g), by_gates gs)

-- what all gates wait for, by gates
sum_at : (f : Gate → ℕ) (gs : List Gate) (ws : List ℕ) → length ws ≡ length gs
    → ((u : ℕ) → u < length gs → get_or ws u 0 ≡ f (get_or gs u no_gate)) → sum ws ≡ sum_by f gs
sum_at f [] [] same each = refl
sum_at f (g ∷ gs) (w ∷ ws) same each =
    let here : w ≡ f g = each 0 (omega arith) in
    sum_by-cons (λ x. x) w ws ∙ ap₂ (λ a b. a + b) here
    (sum_at f gs ws (omega (arith, same)) (λ u below. each (suc u) (omega (arith, below))))
    ∙ sym (sum_by-cons f g gs)
sum_at f gs ws same each = absurd (omega (arith, same))

module _ (gates : List Gate) where
  -- how many operands are over gates
  abbrev pub total : ℕ
  total = sum (map (λ (g : Gate). length (gates_under gates g)) gates)

-- steps are as many as the listed gates and the operands over them, where gates wait for what is left over
pub steps_are : (c : Circuit) (list waiting : List ℕ) (steps : ℕ) → length waiting ≡ length c.gates
    → ((u : ℕ) → u < length c.gates → get_or waiting u 0 ≡ left_over list (gate_operands c.gates u))
    → steps + sum waiting ≡ length list + total c.gates → steps ≡ length list + operands_over c list
steps_are c list waiting steps as_many waits paid =
    let left : sum waiting ≡ sum_by (waiting_of c.gates list) c.gates =
    search (rules, sum_at, needed) in search (rules, by_gates, sum-map)

two_at_most : (a b : Option ℕ) → length (option_to_list a ++ option_to_list b) ≤ 2
two_at_most None None = omega arith
two_at_most None (Some y) = omega arith
two_at_most (Some x) None = omega arith
two_at_most (Some x) (Some y) = omega arith

two_operands : (gates gs : List Gate)
    → AllByRecursion (λ w. w ≤ 2) (map (λ (g : Gate). length (gates_under gates g)) gs)
two_operands gates [] = tt
two_operands gates (g ∷ gs) = (
  two_at_most (gate_of gates (variable_of g.left)) (gate_of gates (variable_of g.right)),
  two_operands gates gs,
)

-- What gates need, as the code looks it up.
linked_to : (o : Option ℕ) → linked (link_to o) ≡ option_to_list o
linked_to None = refl
linked_to (Some x) = refl

same_under : (gates : List Gate) (g : Gate) → under (needs_of gates g) ≡ gates_under gates g
same_under gates g = search (rules, linked_to)

pub here_needs : (all : List Needs) (gate : ℕ) (n : Needs) → gate < length all → n ≡ get_or all gate n
    → needs_at all gate ≡ under n
here_needs all gate n there is = get_or-map under all gate n [] there ∙ ap under (sym is)

module _ (gates : List Gate) (all : List Needs) (all_are : all ≡ map (needs_of gates) gates) where
  pub as_long : length all ≡ length gates
  as_long = ap length all_are ∙ length-map gates (needs_of gates)

  pub same_needs : (u : ℕ) → needs_at all u ≡ gate_operands gates u
  same_needs u =
      ⊎_elim (λ (there : u < length gates).
      get_or-map under all u no_needs [] (omega (arith, there, as_long))
      ∙ ap (λ ns. under (get_or ns u no_needs)) all_are
      ∙ ap under (get_or-map (needs_of gates) gates u no_gate no_needs there)
      ∙ same_under gates (get_or gates u no_gate)
      ∙ sym (needed gates u there))
      (search (rules, get_or_past, as_long, length-map))
      (cases_lt u (length gates))

  pub are_there : AreThere all
  are_there u = search (rules, all_of, same_needs, as_long, over_one, cases_lt, get_or_past, length-map)

-- an order by what is needed, however that is told
module _ (count : ℕ) (some other : ℕ → List ℕ) (same : (u : ℕ) → some u ≡ other u) where
  pub in_turn_too : (taken xs : List ℕ) → TakesLeast count some taken xs → TakesLeast count other taken xs
  in_turn_too taken xs in_turn = subst (λ needs. TakesLeast count needs taken xs) (fun_ext same) in_turn

  pub full_too : (list : List ℕ) → IsFull count some list → IsFull count other list
  full_too list full = subst (λ needs. IsFull count needs list) (fun_ext same) full

-- how many operands each gate waits for at first
one_by_one : (gates gs : List Gate) → map (λ (g : Gate). how_many (needs_of gates g)) gs
    ≡ map (λ (g : Gate). length (gates_under gates g)) gs
one_by_one gates [] = refl
one_by_one gates (g ∷ gs) = ap₂ (λ n ns. n ∷ ns) (ap length (same_under gates g)) (one_by_one gates gs)

length_at : (xss : List (List ℕ)) (u : ℕ) → get_or (map length xss) u 0 ≡ length (get_or xss u [])
length_at (xs ∷ xss) (suc u) = length_at xss u
length_at xs n = refl

module _ (gates : List Gate) (rows : List GateNode) (counts : List ℕ)
    (needs_are : needs_in rows ≡ map (needs_of gates) gates) (are : counts ≡ map how_many (needs_in rows)) where
  pub counts_are : counts ≡ map (λ (g : Gate). length (gates_under gates g)) gates
  counts_are = are ∙ ap (map how_many) needs_are ∙ map-map how_many (needs_of gates) gates ∙ one_by_one gates gates

  pub as_many_counts : length counts ≡ length gates
  as_many_counts = ap length counts_are ∙ length-map gates (λ (g : Gate). length (gates_under gates g))

  pub at_most_two : AllByRecursion (λ w. w ≤ 2) counts
  at_most_two = subst (AllByRecursion (λ w. w ≤ 2)) (sym counts_are) (two_operands gates gates)

  pub each_count : (u : ℕ) → get_or counts u 0 ≡ length (needs_at (needs_in rows) u)
  each_count u = search (rules, map-map, length_at)
