-- A circuit in binary order is its own image.
use Rattle.std.proofs.Common.{◌≡◌, ◌+◌, ◌*◌, ◌<◌, ◌≤◌, ◌∷◌, ◌++◌, ◌∙◌, rules, ℕ, zero, suc, List, [], length, map}
use Rattle.std.proofs.Common.{⊎_elim, arith, take, None, refl, sym, subst, eqb, ap, ap₂}
use Rattle.std.specs.List.{range_with_len}
use Rattle.std.proofs.lemmas.Bool.{cases_lt, ne_eqb}
use Rattle.std.proofs.lemmas.Simd.{pick_l_whole}
use Rattle.std.proofs.Math.Nat.{max-eq_left, min-eq_right}
use Rattle.std.proofs.lemmas.List.FromFn.{get_or-range_with_len, length-range_with_len}
use Rattle.std.proofs.lemmas.List.Sums.{position_or_len_is}
use Rattle.aig_circuit.specs.declared.circuit.Gate.{Gate}
use Rattle.aig_circuit.specs.declared.circuit.Circuit.{Circuit}
use Rattle.aig_circuit.specs.Literal.{variable_of}
use Rattle.aig_circuit.specs.Wellformed.{IsAmong, AreDistinct, IsKnown, IsWellFormed, defined_variables}
use Rattle.aig_circuit.specs.declared.circuit.Latch.{Latch}
use Rattle.aig_circuit.specs.declared.circuit.TheConstants.{LARGEST}
use Rattle.aig_circuit.proofs.Checking.{definitions_fit, all_weaker}
use Rattle.aig_circuit.proofs.Alike.{gate}
use Rattle.aig_topo.specs.Order.{IsLeastReadyOrder, IsReady, TakesLeast, IsFull, gate_operands}
use Rattle.aig_topo.proofs.Ordering.Ranked.{at, over_one, all_served, no_gate, variables, stands_there, distinct_back}
use Rattle.aig_topo.proofs.Ordering.Counted.{among_either}
use Rattle.aig_checked.specs.BinaryOrder.{AreNumberedGates, AreOrderedGates, IsInBinaryOrder, IsNumberedInOrder}
use Rattle.aig_checked.proofs.Numbered.{among, is_numbered, numbered_variables_are}
use Rattle.aig_meaning.proofs.Related.{distinct_apart}
use Rattle.aig_image.specs.Parts.InOrder.{StandInOrder}
use Rattle.aig_image.specs.declared.image.Renumbering.{Renumbering}
use Rattle.aig_image.specs.declared.in_turn.InTurn.{InTurn}
use Rattle.aig_image.specs.Parts.InTurn.{numbered_gate, new_number, AreMadeInTurn, IsMadeInTurn}
use Rattle.aig_image.specs.Parts.Numbers.{number_of, number_in, HaveNumbers, IsRenumberingOf}
use Rattle.aig_image.specs.Relabelled.{FitIntoLiterals, relabelled}
use Rattle.aig_image.specs.Renumbering.{renumbered, in_new_order}
use Rattle.aig_image.specs.Reordered.{taken, operands_sorted, converted, with_operands_sorted}
use Rattle.aig_image.specs.Image.{IsBinaryImage}
use Rattle.aig_image.proofs.Imaging.InTurn.{place_before, same_gate, some_gate}
use Rattle.aig_image.proofs.Relabelling.Relabelled.{names_only, names_kept_keep_all, with_gates}

-- where each gate needs only those before it, they are taken one after another
module _ (count : ℕ) (needs : ℕ → List ℕ) (falls : (g h : ℕ) → g < count → IsAmong h (needs g) → h < g) where
  -- exactly the gates below k were taken
  abbrev AreBelow : ℕ → List ℕ → Type 0
  AreBelow k seen = ((h : ℕ) → h < k → IsAmong h seen) × ((h : ℕ) → IsAmong h seen → h < k)

  one_more : (k : ℕ) (seen : List ℕ) → AreBelow k seen → AreBelow (k + 1) (k ∷ seen)
  one_more k seen below = search rules

  next_ready : (k : ℕ) (seen : List ℕ) → k < count → AreBelow k seen → IsReady count needs seen k
  next_ready k seen there below = record {
    there = there;
    left = λ a. let b : k < k = below.1 k a in omega (arith, b);
    served = all_served count needs seen (needs k) (λ h used. below.0 h (falls k h there used));
  }

  in_turn_from : (n k : ℕ) (seen : List ℕ) → k + n ≤ count → AreBelow k seen
      → TakesLeast count needs seen (range_with_len k n)
  in_turn_from zero k seen fits below = tt
  in_turn_from (suc n) k seen fits below = (
    next_ready k seen (omega (arith, fits)) below,
    search (rules, cases_lt),
    in_turn_from n (k + 1) (k ∷ seen) (omega (arith, fits)) (one_more k seen below),
  )

  one_by_one : TakesLeast count needs [] (range_with_len 0 count)
  one_by_one = in_turn_from count 0 [] (omega arith) (λ h l. absurd (omega (arith, l)), λ h a. absurd a)

  all_of_them : IsFull count needs (range_with_len 0 count)
  all_of_them g there served = among g 0 count (omega arith) (omega (arith, there))

-- gates in binary order need only those before them
pub ordered_at : (v : ℕ) (gates : List Gate) → AreOrderedGates v gates → (i : ℕ) → i < length gates
    → ((at gates i).var ≡ v + i) × ((at gates i).left < 2 * (at gates i).var) × ((at gates i).right ≤ (at gates i).left)
ordered_at v [] ordered i there = absurd (omega arith)
ordered_at v (g ∷ gs) ordered zero there = (omega (arith, ordered.0), ordered.1, ordered.2)
ordered_at v (g ∷ gs) ordered (suc i) there =
    search (rules, at, ordered_at (suc v) gs ordered.3 i (omega (arith, there)))

-- and so do gates that are numbered in order, whatever the order of their operands
numbered_at : (v : ℕ) (gates : List Gate) → AreNumberedGates v gates → (i : ℕ) → i < length gates
    → ((at gates i).var ≡ v + i) × ((at gates i).left < 2 * (at gates i).var)
    × ((at gates i).right < 2 * (at gates i).var)
numbered_at v [] numbered i there = absurd (omega arith)
numbered_at v (g ∷ gs) numbered zero there = (omega (arith, numbered.0), numbered.1, numbered.2)
numbered_at v (g ∷ gs) numbered (suc i) there =
    search (rules, at, numbered_at (suc v) gs numbered.3 i (omega (arith, there)))

lower_variable : (x var left right : ℕ) → left < 2 * var → right < 2 * var
    → IsAmong x (map variable_of (left ∷ right ∷ [])) → x < var
lower_variable x var left right l r a = search rules

needs_fall : (v : ℕ) (gates : List Gate) → AreNumberedGates v gates → (g h : ℕ) → g < length gates
    → IsAmong h (gate_operands gates g) → h < g
needs_fall v gates numbered g h there used = search (rules, over_one, numbered_at, at, lower_variable)

-- so they are taken as they stand
pub numbered_in_order : (c : Circuit) → IsNumberedInOrder c
    → IsLeastReadyOrder c (range_with_len 0 (length c.gates))
numbered_in_order c numbered = search (rules, needs_fall, one_by_one, all_of_them)

pub in_order : (c : Circuit) → IsInBinaryOrder c → IsLeastReadyOrder c (range_with_len 0 (length c.gates))
in_order c ordered = numbered_in_order c (is_numbered c ordered)

module _ (first : List ℕ) (gates : List Gate) (once : AreDistinct (first ++ variables gates))
    (some : (h : ℕ) → h < length gates → 1 ≤ (at gates h).var) (stand : StandInOrder first gates) where
  -- a gate that is known before another stands before it
  known_falls : (g h lit : ℕ) → h < length gates → g < length gates → IsKnown (first ++ variables (take g gates)) lit
      → (at gates h).var ≡ variable_of lit → h < g
  known_falls g h lit h_there g_there known is =
      ⊎_elim
      (search (rules, at))
      (λ (a : IsAmong (variable_of lit) (first ++ variables (take g gates))).
      let among = subst (λ v. IsAmong v (first ++ variables (take g gates))) (sym is) a in
      ⊎_elim
      (λ (i : IsAmong (at gates h).var first). absurd
      (distinct_apart first (variables gates) once (at gates h).var i (stands_there gates h h_there)))
      (search (rules, variables, place_before, same_gate, distinct_back))
      (among_either (at gates h).var first (variables (take g gates)) among)) known

  falls : (g h : ℕ) → g < length gates → IsAmong h (gate_operands gates g) → h < g
  falls g h there used = search (rules, over_one, known_falls)

module _ (c : Circuit) (good : IsWellFormed c) where
  abbrev pub first : List ℕ
  first = c.inputs ++ map (λ (l : Latch). l.var) c.latches

  abbrev as_they_stand : List ℕ
  as_they_stand = range_with_len 0 (length c.gates)

  least_as_they_stand : StandInOrder first c.gates → IsLeastReadyOrder c as_they_stand
  least_as_they_stand stand = search (rules, falls, some_gate, one_by_one, all_of_them)

  taken_as_they_stand : taken c.gates as_they_stand ≡ c.gates
  taken_as_they_stand = pick_l_whole no_gate c.gates (length c.gates) refl

  pub few : length c.inputs + length c.latches + length c.gates ≤ LARGEST
  few = omega (arith, definitions_fit c good, good.limits.max_var)

  -- so the gates as they stand, and numbers that were noted in their order, make the image
  pub in_place : (r : Renumbering) → r.taken ≡ None → StandInOrder first c.gates
      → HaveNumbers r.numbers (defined_variables c)
      → FitIntoLiterals (number_of r.numbers) → IsRenumberingOf c r
  in_place r none stand numbered small = search (rules, least_as_they_stand, taken_as_they_stand, variables)

  -- and so do gates that were made in turn as they stand
  pub made_as_they_stand : (m : InTurn) → AreMadeInTurn first c.gates m.gates.items m.numbers → IsMadeInTurn c m
  made_as_they_stand m a = record {
    order = as_they_stand;
    least = least_as_they_stand a.in_order;
    count = subst (λ gs. m.numbers.numbers.noted ≡ length (first ++ variables gs)) (sym taken_as_they_stand) a.count;
    numbers = λ v.
        subst (λ gs. new_number m.numbers v ≡ number_in (first ++ variables gs) v) (sym taken_as_they_stand)
        (a.numbers v);
    gates =
        subst (λ gs. m.gates.items ≡ map (numbered_gate (renumbered (first ++ variables gs))) gs)
        (sym taken_as_they_stand) a.made;
  }

-- Where the variables are 1, 2, 3 and so on, new numbers are the old ones.
module _ (m : ℕ) where
  abbrev numbers : List ℕ
  numbers = range_with_len 1 m

  pub same_variable : (v : ℕ) → v ≤ m → renumbered numbers v ≡ v
  same_variable zero fits = refl
  same_variable (suc u) fits =
      let place = position_or_len_is (λ w. eqb w (suc u)) numbers u 0 (omega (arith, length-range_with_len 1 m, fits))
      (search (rules, get_or-range_with_len, ne_eqb))
      (search (rules, get_or-range_with_len)) in
      rw (ne_eqb (suc u) 0 (λ e. absurd (omega (arith, e)))) (omega (arith, place))

-- operands with the larger one first stay as they are
pub sorted_already : (v : ℕ) (gs : List Gate) → AreOrderedGates v gs → map operands_sorted gs ≡ gs
sorted_already v [] ordered = refl
sorted_already v (g ∷ gs) ordered = search (rules, gate, max-eq_left, min-eq_right, sorted_already (suc v) gs ordered.3)

-- A well-formed circuit in binary order is its own image; one whose variables are numbered in order is, once its
-- operands are sorted.
module _ (c : Circuit) (good : IsWellFormed c) (numbered : IsNumberedInOrder c) where
  abbrev order : List ℕ
  order = range_with_len 0 (length c.gates)

  abbrev all : List ℕ
  all = range_with_len 1 c.max_var

  all_taken : taken c.gates order ≡ c.gates
  all_taken = pick_l_whole no_gate c.gates (length c.gates) refl

  new_is : in_new_order c order ≡ all
  new_is = search (rules, variables, all_taken, numbered_variables_are)

  same_names : relabelled (renumbered all) c ≡ c
  same_names =
      let Same : ℕ → Type 0 = λ v. renumbered all v ≡ v in
      names_kept_keep_all (renumbered all) c
      (names_only Same c refl
      (search (rules, all_weaker, same_variable))
      good)

  pub sorted_image : IsBinaryImage c (with_operands_sorted c)
  sorted_image =
      let sorted : converted (renumbered all) order c ≡ with_operands_sorted c =
      search (rules, with_gates, same_names, all_taken) in
      let made =
      ap₂ (λ vs (n : ℕ). record (converted (renumbered vs) order c) { max_var = n }) new_is
      (ap length new_is ∙ length-range_with_len 1 c.max_var)
      ∙ ap (λ (d : Circuit). record d { max_var = c.max_var }) sorted in
      (order, numbered_in_order c numbered, sym made)

pub own_image : (c : Circuit) → IsWellFormed c → IsInBinaryOrder c → IsBinaryImage c c
own_image c good ordered = search (rules, with_gates, sorted_already, sorted_image, is_numbered)
