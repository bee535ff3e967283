-- Gates that are taken in turn have their new numbers in turn, and the new order has each variable once.
use Rattle.std.proofs.Common.{◌≡◌, ◌+◌, ◌*◌, ◌%◌, ◌<◌, ◌≤◌, ◌∷◌, ◌++◌, ◌∙◌, ◌⊎◌, rules, ℕ, suc, List, [], length}
use Rattle.std.proofs.Common.{length-append, map, max, min, refl, sym, ap, subst, inl, inr, ⊎_elim, append_assoc, arith}
use Rattle.std.proofs.Common.{take, slice_index_or, zero, get_or}
use Rattle.std.specs.List.{AllByRecursion}
use Rattle.std.proofs.lemmas.List.{length-take, get_or-take, length-map}
use Rattle.aig_circuit.specs.declared.circuit.Gate.{Gate}
use Rattle.aig_circuit.specs.Literal.{variable_of}
use Rattle.aig_circuit.specs.Wellformed.{IsAmong, AreDistinct, IsKnown, operands, IsVariableUpTo, IsWellFormed}
use Rattle.aig_circuit.specs.Wellformed.{defined_variables}
use Rattle.aig_circuit.specs.declared.circuit.Circuit.{Circuit}
use Rattle.aig_circuit.specs.declared.circuit.Latch.{Latch}
use Rattle.aig_circuit.specs.declared.circuit.TheConstants.{LARGEST}
use Rattle.aig_circuit.proofs.Checking.{each, all_weaker, at_most, at_most_below, definitions_fit}
use Rattle.aig_topo.specs.Order.{IsReady, TakesLeast, gate_operands, IsLeastReadyOrder}
use Rattle.aig_topo.proofs.Ordering.Counted.{among_either, among_first}
use Rattle.aig_topo.proofs.Ordering.Cyclic.{among_last}
use Rattle.aig_topo.proofs.Ordering.Ranked.{at, needed_by, variables, gate_here, no_gate as no_gate_there, stands_there}
use Rattle.aig_topo.proofs.Ordering.Ranked.{distinct_back, rank_exactly_where_all_are_ordered, all_of}
use Rattle.aig_checked.specs.BinaryOrder.{AreOrderedGates}
use Rattle.aig_checked.proofs.Numbered.{at_least_below}
use Rattle.aig_image.specs.Relabelled.{relabelled_gate}
use Rattle.aig_image.specs.Reordered.{operands_sorted, taken, no_gate, ArePlaces, positions_of}
use Rattle.aig_image.specs.Renumbering.{renumbered, in_new_order, source_variable}
use Rattle.aig_image.specs.Parts.InTurn.{DefineApart}
use Rattle.aig_image.specs.Parts.Numbers.{first_variables}
use Rattle.aig_image.specs.Laws.{IsOneToOneOnto}
use Rattle.aig_image.proofs.Relabelling.Formed.{among_there}
use Rattle.aig_image.proofs.Numbering.Places.{number_of, number_within, place_there, have_positions, back_variable}
use Rattle.aig_image.proofs.Numbering.Places.{number_at, here, somewhere}
use Rattle.aig_image.proofs.Relabelling.Permuted.{order_keeps_once, order_keeps_defined, order_adds_none}

-- what is taken in turn is there, and is taken once
module _ (count : ℕ) (needs : ℕ → List ℕ) where
  later_apart : (seen xs : List ℕ) → TakesLeast count needs seen xs → (h : ℕ) → IsAmong h xs → ¬ IsAmong h seen
  later_apart seen [] in_turn h a b = absurd a
  later_apart seen (x ∷ xs) in_turn h a b =
      ⊎_elim (λ (e : h ≡ x). in_turn.0.left (subst (λ i. IsAmong i seen) e b))
      (λ (i : IsAmong h xs). later_apart (x ∷ seen) xs in_turn.2 h i (inr b)) a

  each_once : (seen xs : List ℕ) → TakesLeast count needs seen xs → AreDistinct xs
  each_once seen [] in_turn = tt
  each_once seen (x ∷ xs) in_turn =
      (λ a. later_apart (x ∷ seen) xs in_turn.2 x a (inl refl), each_once (x ∷ seen) xs in_turn.2)

  all_there : (seen xs : List ℕ) → TakesLeast count needs seen xs → AllByRecursion (λ g. g < count) xs
  all_there seen [] in_turn = tt
  all_there seen (x ∷ xs) in_turn = (in_turn.0.there, all_there (x ∷ seen) xs in_turn.2)

-- a variable of the first gates is that of one of these
pub place_before : (gates : List Gate) (k v : ℕ) → IsAmong v (variables (take k gates))
    → (p : ℕ) × (p < k) × (p < length gates) × ((at gates p).var ≡ v)
place_before gates k v a = search (rules, place_there, length-take, get_or-take, no_gate_there)

-- which is no constant in a well-formed circuit
pub some_gate : (c : Circuit) → IsWellFormed c → (i : ℕ) → i < length c.gates → 1 ≤ (at c.gates i).var
some_gate c good i there =
    let first : List ℕ = c.inputs ++ map (λ (l : Latch). l.var) c.latches in
    (each (IsVariableUpTo c.max_var) (defined_variables c) good.in_range (at c.gates i).var
    (among_last first (variables c.gates) (at c.gates i).var (stands_there c.gates i there))).0

module _ (gates : List Gate) where
  abbrev pub taken_variables : List ℕ → List ℕ
  taken_variables order = variables (taken gates order)

  -- a variable that is defined once is that of one gate
  pub same_gate : AreDistinct (variables gates) → (g h : ℕ) → g < length gates → h < length gates
      → (at gates g).var ≡ (at gates h).var → g ≡ h
  same_gate once g h g_there h_there e =
      cc (gate_here gates once g g_there, gate_here gates once h h_there)

-- a gate by new numbers, the larger operand first
abbrev pub renumbered_gate : List ℕ → Gate → Gate
renumbered_gate vs g = operands_sorted (relabelled_gate (renumbered vs) g)

-- operands with lower numbers are lower literals, and the larger one is first
lower : (n var left right s t : ℕ) → var ≡ 1 + n → left ≤ n → right ≤ n
    → (max (2 * left + s % 2) (2 * right + t % 2) < 2 * var)
    × (min (2 * left + s % 2) (2 * right + t % 2) ≤ max (2 * left + s % 2) (2 * right + t % 2))
lower n var left right s t is l r = search rules

module _ (gates : List Gate) (first vs : List ℕ) (once : AreDistinct vs) (gates_once : AreDistinct (variables gates))
    (some : (g : ℕ) → g < length gates → 1 ≤ (at gates g).var)
    (known : (g l : ℕ) → g < length gates → IsAmong l (operands (at gates g)) → IsKnown (first ++ variables gates) l)
  where
    -- the variables before hold the first ones and those of all gates that were taken
    abbrev Holds : List ℕ → List ℕ → Type 0
    Holds seen before =
        ((h : ℕ) → IsAmong h seen → IsAmong (at gates h).var before) × ((v : ℕ) → IsAmong v first → IsAmong v before)

    known_before : (seen before : List ℕ) (g l : ℕ) → IsReady (length gates) (gate_operands gates) seen g
        → Holds seen before → IsAmong l (operands (at gates g)) → (variable_of l ≡ 0) ⊎ IsAmong (variable_of l) before
    known_before seen before g l ready holds used =
        ⊎_elim (λ (z : variable_of l ≡ 0). inl z) (λ (a : IsAmong (variable_of l) (first ++ variables gates)). inr (
        ⊎_elim (λ (i : IsAmong (variable_of l) first). holds.1 (variable_of l) i)
        (λ (i : IsAmong (variable_of l) (variables gates)).
        let p = place_there gates (variable_of l) i in
        let by_variable : IsAmong (at gates p.0).var (map variable_of (operands (at gates g))) =
        subst (λ v. IsAmong v (map variable_of (operands (at gates g)))) (sym p.2)
        (among_there variable_of l (operands (at gates g)) used) in
        let was_taken : IsAmong p.0 seen =
        each (λ h. IsAmong h seen) (gate_operands gates g) ready.served p.0
        (needed_by gates gates_once g p.0 ready.there p.1 by_variable) in
        subst (λ v. IsAmong v before) p.2 (holds.0 p.0 was_taken))
        (among_either (variable_of l) first (variables gates) a)
        )) (known g l ready.there used)

    -- one more gate was taken
    held : (seen before : List ℕ) (g : ℕ) → Holds seen before → Holds (g ∷ seen) (before ++ (at gates g).var ∷ [])
    held seen before g holds = (
      λ h a. ⊎_elim
          (λ (e : h ≡ g). among_last before ((at gates g).var ∷ []) (at gates h).var
          (inl (ap (λ i. (at gates i).var) e)))
          (λ (i : IsAmong h seen). among_first (at gates h).var before ((at gates g).var ∷ []) (holds.0 h i)) a,
      λ v a. among_first v before ((at gates g).var ∷ []) (holds.1 v a),
    )

    pub in_turn : (seen before rest : List ℕ) → Holds seen before
        → TakesLeast (length gates) (gate_operands gates) seen rest → vs ≡ before ++ taken_variables gates rest
        → AreOrderedGates (1 + length before) (map (renumbered_gate vs) (taken gates rest))
    in_turn seen before [] holds least are = tt
    in_turn seen before (g ∷ rest) holds least are =
        let gate : Gate = at gates g in
        let number : renumbered vs gate.var ≡ 1 + length before =
        number_of vs once before (taken_variables gates rest) gate.var (some g least.0.there) are in
        let left : renumbered vs (variable_of gate.left) ≤ length before =
        number_within vs once before (taken_variables gates (g ∷ rest)) (variable_of gate.left) are
        (known_before seen before g gate.left least.0 holds (inl refl)) in
        let right : renumbered vs (variable_of gate.right) ≤ length before =
        number_within vs once before (taken_variables gates (g ∷ rest)) (variable_of gate.right) are
        (known_before seen before g gate.right least.0 holds (inr (inl refl))) in
        let ordered =
        lower (length before) (renumbered vs gate.var) (renumbered vs (variable_of gate.left))
        (renumbered vs (variable_of gate.right)) gate.left gate.right number left right in
        let next : 1 + length (before ++ gate.var ∷ []) ≡ suc (1 + length before) =
        omega (arith, length-append before (gate.var ∷ [])) in
        let all : vs ≡ (before ++ gate.var ∷ []) ++ taken_variables gates rest = are
        ∙ sym (append_assoc before (gate.var ∷ []) (taken_variables gates rest)) in (
          number,
          ordered.0,
          ordered.1,
          subst (λ n. AreOrderedGates n (map (renumbered_gate vs) (taken gates rest))) next
              (in_turn (g ∷ seen) (before ++ gate.var ∷ []) rest (held seen before g holds) least.2 all),
        )

-- inputs and latches are the first variables
many_first : (c : Circuit) → length (first_variables c) ≡ length c.inputs + length c.latches
many_first c = simp (length-append, length-map) refl

-- The least ready order of a well-formed circuit has each gate once, so its new order has each variable once.
module _ (c : Circuit) (order : List ℕ) (good : IsWellFormed c) (least : IsLeastReadyOrder c order) where
  abbrev pub first : List ℕ
  first = c.inputs ++ map (λ (l : Latch). l.var) c.latches

  abbrev pub new : List ℕ
  new = in_new_order c order

  pub order_once : AreDistinct order
  order_once = each_once (length c.gates) (gate_operands c.gates) [] order least.in_turn

  pub order_there : AllByRecursion (λ g. g < length c.gates) order
  order_there = all_there (length c.gates) (gate_operands c.gates) [] order least.in_turn

  there : (h : ℕ) → IsAmong h order → h < length c.gates
  there h a = each (λ g. g < length c.gates) order order_there h a

  pub not_more : length order ≤ length c.gates
  not_more = at_most_below (length c.gates) order order_once order_there

  pub listed : (h : ℕ) → h < length c.gates → IsAmong h order
  listed = (rank_exactly_where_all_are_ordered c order good.once least).0 good.ranked

  -- every gate is taken
  pub all_taken : length order ≡ length c.gates
  all_taken = search (rules, at_least_below, listed, not_more)

  -- so each gate has a place in the order, and each place of it a gate
  pub order_is_places : ArePlaces (positions_of order) order (length c.gates)
      × ArePlaces order (positions_of order) (length c.gates)
  order_is_places = have_positions (length c.gates) order order_once order_there all_taken

  pub gates_once : AreDistinct (variables c.gates)
  gates_once = distinct_back first (variables c.gates) good.once

  pub new_once : AreDistinct new
  new_once = order_keeps_once order (positions_of order) c order_is_places.1 order_is_places.0 good.once

  -- the new order has exactly the defined variables
  pub has_defined : (v : ℕ) → IsAmong v (defined_variables c) → IsAmong v new
  has_defined = order_keeps_defined order (positions_of order) c order_is_places.1 order_is_places.0

  pub is_defined : (v : ℕ) → IsAmong v new → IsAmong v (defined_variables c)
  is_defined = order_adds_none order (positions_of order) c order_is_places.1 order_is_places.0

  -- none of them is the constant
  new_some : AllByRecursion (λ v. 1 ≤ v) new
  new_some = all_of (λ v. 1 ≤ v) new
      (λ v a. (each (IsVariableUpTo c.max_var) (defined_variables c) good.in_range v (is_defined v a)).0)

  pub new_fits : length new ≤ c.max_var
  new_fits = search (rules, at_most, new_once, all_of, each, is_defined)

  few : length first + length (taken c.gates order) ≤ LARGEST
  few =
      let many = length-map order (λ at. slice_index_or c.gates at no_gate) in
      omega (arith, many, many_first c, not_more, definitions_fit c good, good.limits.max_var)

  pub taken_apart : DefineApart first (taken c.gates order)
  taken_apart = record {
    few = few;
    once = new_once;
    some = new_some;
  }

-- gates as they stand
pub standing_apart : (c : Circuit) → IsWellFormed c → DefineApart (first_variables c) c.gates
standing_apart c good = record {
  few = omega (arith, many_first c, definitions_fit c good, good.limits.max_var);
  once = good.once;
  some = all_weaker (IsVariableUpTo c.max_var) (λ v. 1 ≤ v) (λ v r. r.0) (defined_variables c) good.in_range;
}

-- Renumbering is one to one from the defined variables onto the numbers from 1 on.
module _ (c : Circuit) (order : List ℕ) (good : IsWellFormed c) (least : IsLeastReadyOrder c order) where
  abbrev vs : List ℕ
  vs = in_new_order c order

  abbrev count : ℕ
  count = length c.inputs + length c.latches + length c.gates

  pub many : length vs ≡ count
  many = search (rules, taken_variables, length-map, at, all_taken, length-append)

  some : (v : ℕ) → IsAmong v vs → 1 ≤ v
  some v among = search (rules, each, is_defined)

  -- the variable at a place has the number that is one more
  pub number_there : (j : ℕ) → j < length vs → renumbered vs (get_or vs j 0) ≡ 1 + j
  number_there j below = number_at vs (new_once c order good least) j below (some (get_or vs j 0) (here vs j below))

  within : (v : ℕ) → IsAmong v (defined_variables c) → IsVariableUpTo count (renumbered vs v)
  within v defined =
      let there = somewhere v vs (has_defined c order good least v defined) in
      search (rules, number_there, many)

  -- what has a number is found again by it
  pub back : (v : ℕ) → IsAmong v (defined_variables c) → source_variable vs (renumbered vs v) ≡ v
  back v defined = back_variable vs v (inr (has_defined c order good least v defined))

  reached : (n : ℕ) → IsVariableUpTo count n → (v : ℕ) × IsAmong v (defined_variables c) × (renumbered vs v ≡ n)
  reached zero range = absurd (omega (arith, range.0))
  reached (suc j) range =
      let below : j < length vs = omega (arith, range.1, many) in
      let number = number_there j below in
      let v : ℕ = get_or vs j 0 in
      (v, is_defined c order good least v (here vs j below), omega (arith, number))

  pub one_to_one : IsOneToOneOnto (renumbered vs) (defined_variables c) count
  one_to_one = search (rules, within, back, reached)
