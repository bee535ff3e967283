-- What is said of the gates of a circuit stays true where unused ones are taken out, and where it is numbered anew.
use Rattle.std.proofs.Common.{◌≡◌, ◌≢◌, ◌<◌, ◌≤◌, ◌∷◌, ◌∙◌, ◌⊎◌, ℕ, zero, suc, List, []}
use Rattle.std.proofs.Common.{length, map, max, min, get_or, refl, sym, ap, subst, inl, inr, ⊎_elim, arith}
use Rattle.std.specs.List.{Contains, concat, flat_map}
use Rattle.std.proofs.lemmas.List.{get_or-map, get_or_default, map-append}
use Rattle.std.proofs.lemmas.List.Elements.{All-from_recursion}
use Rattle.std.proofs.lemmas.Simd.{map-map}
use Rattle.aig_circuit.specs.declared.circuit.Latch.{Latch}
use Rattle.aig_circuit.specs.declared.circuit.Gate.{Gate}
use Rattle.aig_circuit.specs.declared.circuit.Circuit.{Circuit}
use Rattle.aig_circuit.specs.Literal.{variable_of}
use Rattle.aig_circuit.specs.Wellformed.{IsAmong, IsKnown, IsWellFormed, defined_variables, literal_lists, operands}
use Rattle.aig_circuit.proofs.Checking.{back as last_part}
use Rattle.aig_checked.specs.BinaryOrder.{IsInBinaryOrder}
use Rattle.aig_topo.specs.Order.{IsLeastReadyOrder}
use Rattle.aig_topo.proofs.Ordering.Counted.{among_either}
use Rattle.aig_meaning.specs.Meaning.{next_literals}
use Rattle.aig_meaning.proofs.Related.{of_operands}
use Rattle.aig_image.specs.Image.{IsBinaryImage, image_by}
use Rattle.aig_image.specs.Parts.InTurn.{numbered_gate}
use Rattle.aig_image.specs.Relabelled.{relabelled_gate, relabelled_latch, relabelled_literal}
use Rattle.aig_image.specs.Renumbering.{in_new_order, renumbered, source_variable}
use Rattle.aig_image.specs.Renamed.{IsRenamedGate}
use Rattle.aig_image.specs.Reordered.{no_gate, operands_sorted, taken}
use Rattle.aig_image.proofs.Imaging.InTurn.{back, one_to_one, order_there}
use Rattle.aig_image.proofs.Meaning.{image_is_renamed, larger_first}
use Rattle.aig_image.proofs.Relabelling.Formed.{variable_there}
use Rattle.aig_simplify.specs.Folded.{HasNothingToFold, HasSameOperands, NeedsGate}
use Rattle.aig_simplify.specs.Swept.{IsSwept, IsUsed, UsesEachGate}
use Rattle.aig_simplify.specs.Parts.Folding.{gate_at}
use Rattle.aig_simplify.specs.Parts.Sweeping.{shown_literals}
use Rattle.aig_simplify.proofs.Settled.{mapped_back}
use Rattle.aig_simplify.proofs.Stepping.{ordered_at}
use Rattle.aig_simplify.proofs.Sweeping.{left_contained, with_gates}
use Rattle.aig_simplify.proofs.Used.{mapped_first, mapped_last, operand_among}
use Rattle.aig_simplify.proofs.Whole.{first_gate}

-- what is used is shown, or one of the gates is over it
used_by : (c : Circuit) (gates : List Gate) (v : ℕ) → IsUsed (with_gates gates c) v
    → IsAmong v (map variable_of (shown_literals c)) ⊎ IsAmong v (map variable_of (flat_map operands gates))
used_by c gates v used =
    among_either v (map variable_of (shown_literals c)) (map variable_of (flat_map operands gates))
    (subst (IsAmong v) (map-append variable_of (shown_literals c) (flat_map operands gates)) used)

operand_of : (v : ℕ) (gs : List Gate) → IsAmong v (map variable_of (flat_map operands gs))
    → (g : Gate) × Contains gs g × IsAmong v (map variable_of (operands g))
operand_of v [] a = absurd a
operand_of v (g ∷ gs) a =
    ⊎_elim
    (λ (i : IsAmong v (map variable_of (operands g))). (g, (zero, omega arith, refl), i))
    (λ (i : IsAmong v (map variable_of (flat_map operands gs))).
    let there = operand_of v gs i in
    (there.0, (suc there.1.0, omega (arith, there.1.1), there.1.2), there.2))
    (among_either v (map variable_of (operands g)) (map variable_of (flat_map operands gs))
    (subst (IsAmong v) (map-append variable_of (operands g) (flat_map operands gs)) a))

exchanged : (v x y : ℕ) → IsAmong v (map variable_of (x ∷ y ∷ [])) → IsAmong v (map variable_of (y ∷ x ∷ []))
exchanged v x y a =
    ⊎_elim (λ (e : v ≡ variable_of x). inr (inl e))
    (λ (i : IsAmong v (map variable_of (y ∷ []))).
    ⊎_elim (λ (e : v ≡ variable_of y). inl e) (λ (none : ⊥). absurd none) i)
    a

-- with fewer gates, no more is used
module _ (c : Circuit) (gates : List Gate) (among : (g : Gate) → Contains gates g → Contains c.gates g) where
  used_before : (v : ℕ) → IsUsed (with_gates gates c) v → IsUsed c v
  used_before v used =
      ⊎_elim
      (λ (shown : IsAmong v (map variable_of (shown_literals c))).
      mapped_first variable_of v (shown_literals c) (flat_map operands c.gates) shown)
      (λ (needed : IsAmong v (map variable_of (flat_map operands gates))).
      let g = operand_of v gates needed in
      mapped_last variable_of v (shown_literals c) (flat_map operands c.gates)
      (operand_among v c.gates g.0 (among g.0 g.1) g.2))
      (used_by c gates v used)

  some_have_nothing_to_fold : HasNothingToFold c → HasNothingToFold (with_gates gates c)
  some_have_nothing_to_fold none = record {
    needed = λ g g_in used. none.needed g (among g g_in) (used_before g.var used);
    apart = λ g h g_in h_in g_used h_used same.
        none.apart g h (among g g_in) (among h h_in) (used_before g.var g_used) (used_before h.var h_used) same;
  }

module _ (c d : Circuit) (is : IsSwept c d) where
  left_among : (g : Gate) → Contains d.gates g → Contains c.gates g
  left_among g g_in =
      left_contained is.keeps c.gates g (subst (λ (gs : List Gate). Contains gs g) is.gates g_in)

  pub swept_has_nothing_to_fold : HasNothingToFold c → HasNothingToFold d
  swept_has_nothing_to_fold none =
      subst HasNothingToFold (sym is.same) (some_have_nothing_to_fold c d.gates left_among none)

  -- the larger operands still come first
  pub swept_sorted : IsInBinaryOrder c → (g : Gate) → Contains d.gates g → g.right ≤ g.left
  swept_sorted ordered g g_in =
      let there : Contains c.gates g = left_among g g_in in
      let same : gate_at c.gates there.0 ≡ g =
      get_or_default c.gates there.0 (record { var = 0; left = 0; right = 0 }) g there.1 ∙ there.2 in
      subst (λ (h : Gate). h.right ≤ h.left) same
      (ordered_at (first_gate c) c.gates ordered.gates there.0 there.1).2

-- The binary image of a circuit.
module _ (c : Circuit) (order : List ℕ) (good : IsWellFormed c) (least : IsLeastReadyOrder c order) where
  abbrev f : ℕ → ℕ
  f = renumbered (in_new_order c order)

  abbrev new : Circuit
  new = image_by order c

  abbrev IsKnownThere : ℕ → Type 0
  IsKnownThere = IsKnown (defined_variables c)

  -- each gate of it is one of the circuit's
  source_gate : (h : Gate) → Contains new.gates h → (g : Gate) × Contains c.gates g × (numbered_gate f g ≡ h)
  source_gate h h_in =
      let sorted = mapped_back operands_sorted (taken (map (relabelled_gate f) c.gates) order) h h_in in
      let place = mapped_back (λ (p : ℕ). get_or (map (relabelled_gate f) c.gates) p no_gate) order sorted.0 sorted.1 in
      let p : ℕ = place.0 in
      let below : p < length c.gates =
      subst (λ (q : ℕ). q < length c.gates)
      (get_or_default order place.1.0 0 p place.1.1 ∙ place.1.2)
      (All-from_recursion (λ q. q < length c.gates) order (order_there c order good least) place.1.0 0 place.1.1) in
      let g : Gate = get_or c.gates p no_gate in
      let is : relabelled_gate f g ≡ sorted.0 =
      sym (get_or-map (relabelled_gate f) c.gates p no_gate no_gate below) ∙ place.2 in
      (g, (p, below, get_or_default c.gates p g no_gate below), ap operands_sorted is ∙ sorted.2)

  list_there : (v : ℕ) (ls : List ℕ) → IsAmong v (map variable_of ls)
      → IsAmong (f v) (map variable_of (map (relabelled_literal f) ls))
  list_there v [] a = absurd a
  list_there v (l ∷ ls) a =
      ⊎_elim (λ (e : v ≡ variable_of l). inl (ap f e ∙ sym (variable_there f l)))
      (λ (i : IsAmong v (map variable_of ls)). inr (list_there v ls i)) a

  lists_there : (v : ℕ) (lists : List (List ℕ)) → IsAmong v (map variable_of (concat lists))
      → IsAmong (f v) (map variable_of (concat (map (map (relabelled_literal f)) lists)))
  lists_there v [] a = absurd a
  lists_there v (ls ∷ lists) a =
      ⊎_elim
      (λ (i : IsAmong v (map variable_of ls)).
      mapped_first variable_of (f v) (map (relabelled_literal f) ls) (concat (map (map (relabelled_literal f)) lists))
      (list_there v ls i))
      (λ (i : IsAmong v (map variable_of (concat lists))).
      mapped_last variable_of (f v) (map (relabelled_literal f) ls) (concat (map (map (relabelled_literal f)) lists))
      (lists_there v lists i))
      (among_either v (map variable_of ls) (map variable_of (concat lists))
      (subst (IsAmong v) (map-append variable_of ls (concat lists)) a))

  same_nexts : next_literals new ≡ map (relabelled_literal f) (next_literals c)
  same_nexts =
      map-map (λ (l : Latch). l.next) (relabelled_latch f) c.latches
      ∙ sym (map-map (relabelled_literal f) (λ (l : Latch). l.next) c.latches)

  shown_there : (v : ℕ) → IsAmong v (map variable_of (shown_literals c))
      → IsAmong (f v) (map variable_of (shown_literals new))
  shown_there v a =
      ⊎_elim
      (λ (i : IsAmong v (map variable_of (next_literals c))).
      mapped_first variable_of (f v) (next_literals new) (concat (literal_lists new))
      (subst (λ (ls : List ℕ). IsAmong (f v) (map variable_of ls)) (sym same_nexts) (list_there v (next_literals c) i)))
      (λ (i : IsAmong v (map variable_of (concat (literal_lists c)))).
      mapped_last variable_of (f v) (next_literals new) (concat (literal_lists new))
      (lists_there v (literal_lists c) i))
      (among_either v (map variable_of (next_literals c)) (map variable_of (concat (literal_lists c)))
      (subst (IsAmong v) (map-append variable_of (next_literals c) (concat (literal_lists c))) a))

  -- the operands of a gate
  operand_there : (v : ℕ) (g h : Gate) → IsRenamedGate f g h → IsAmong v (map variable_of (operands g))
      → IsAmong (f v) (map variable_of (operands h))
  operand_there v g h is a =
      let x : ℕ = relabelled_literal f g.left in
      let y : ℕ = relabelled_literal f g.right in
      let has : IsAmong (f v) (map variable_of (x ∷ y ∷ [])) = list_there v (operands g) a in
      ⊎_elim
      (λ (e : (h.left ≡ x) × (h.right ≡ y)).
      subst (λ (l : ℕ). IsAmong (f v) (map variable_of (l ∷ h.right ∷ []))) (sym e.0)
      (subst (λ (l : ℕ). IsAmong (f v) (map variable_of (x ∷ l ∷ []))) (sym e.1) has))
      (λ (e : (h.left ≡ y) × (h.right ≡ x)).
      subst (λ (l : ℕ). IsAmong (f v) (map variable_of (l ∷ h.right ∷ []))) (sym e.0)
      (subst (λ (l : ℕ). IsAmong (f v) (map variable_of (y ∷ l ∷ []))) (sym e.1) (exchanged (f v) x y has)))
      is.operands

  used_there : (v : ℕ) → IsUsed c v → IsUsed new (f v)
  used_there v used =
      ⊎_elim
      (λ (shown : IsAmong v (map variable_of (shown_literals c))).
      mapped_first variable_of (f v) (shown_literals new) (flat_map operands new.gates) (shown_there v shown))
      (λ (needed : IsAmong v (map variable_of (flat_map operands c.gates))).
      let g = operand_of v c.gates needed in
      let h = (image_is_renamed c order good least).gates g.0 g.1 in
      mapped_last variable_of (f v) (shown_literals new) (flat_map operands new.gates)
      (operand_among (f v) new.gates h.0 h.1 (operand_there v g.0 h.0 h.2 g.2)))
      (used_by c c.gates v used)

  pub image_uses_each_gate : UsesEachGate c → UsesEachGate new
  image_uses_each_gate uses h h_in =
      let g = source_gate h h_in in
      subst (IsUsed new) (ap (λ (x : Gate). x.var) g.2) (used_there g.0.var (uses g.0 g.1))

  -- a literal that is known goes to one alone
  goes_back : (l : ℕ) → IsKnownThere l
      → source_variable (in_new_order c order) (f (variable_of l)) ≡ variable_of l
  goes_back l known =
      ⊎_elim
      (λ (e : variable_of l ≡ 0).
      subst (λ (v : ℕ). source_variable (in_new_order c order) (f v) ≡ v) (sym e) refl)
      (λ (a : IsAmong (variable_of l) (defined_variables c)). back c order good least (variable_of l) a)
      known

  one_literal : (l m : ℕ) → IsKnownThere l → IsKnownThere m → relabelled_literal f l ≡ relabelled_literal f m → l ≡ m
  one_literal l m l_known m_known same =
      let variables : f (variable_of l) ≡ f (variable_of m) = omega (arith, same) in
      let one : variable_of l ≡ variable_of m =
      sym (goes_back l l_known) ∙ ap (source_variable (in_new_order c order)) variables ∙ goes_back m m_known in
      omega (arith, same, one, variables)

  -- one that is no constant stays none
  no_constant : (l : ℕ) → IsKnownThere l → 2 ≤ l → 2 ≤ relabelled_literal f l
  no_constant l known some =
      ⊎_elim (λ (e : variable_of l ≡ 0). absurd (omega (arith, e)))
      (λ (a : IsAmong (variable_of l) (defined_variables c)).
      let within = ((one_to_one c order good least).within (variable_of l) a).0 in
      omega (arith, within))
      known

  operands_known : (g : Gate) → Contains c.gates g → IsKnownThere g.left × IsKnownThere g.right
  operands_known =
      of_operands IsKnownThere c.gates
      (last_part IsKnownThere (shown_literals c) (flat_map operands c.gates) good.known)

  module _ (sorted : (g : Gate) → Contains c.gates g → g.right ≤ g.left) where
    still_needed : (g : Gate) → Contains c.gates g → NeedsGate g.left g.right
        → NeedsGate (numbered_gate f g).left (numbered_gate f g).right
    still_needed g g_in need =
        let x : ℕ = relabelled_literal f g.left in
        let y : ℕ = relabelled_literal f g.right in
        let known = operands_known g g_in in
        let order_is : g.right ≤ g.left = sorted g g_in in
        let right_some : 2 ≤ g.right = omega (arith, need.0, need.1) in
        let x_some : 2 ≤ x = no_constant g.left known.0 (omega arith) in
        let y_some : 2 ≤ y = no_constant g.right known.1 right_some in
        let other : y ≢ x = λ same. need.2 (one_literal g.right g.left known.1 known.0 same) in
        (omega arith, omega arith, omega arith)

    same_sources : (g h : Gate) → Contains c.gates g → Contains c.gates h
        → HasSameOperands (numbered_gate f g) (numbered_gate f h) → HasSameOperands g h
    same_sources g h g_in h_in same =
        let x : ℕ = relabelled_literal f g.left in
        let y : ℕ = relabelled_literal f g.right in
        let z : ℕ = relabelled_literal f h.left in
        let w : ℕ = relabelled_literal f h.right in
        let known = operands_known g g_in in
        let known_too = operands_known h h_in in
        let straight : x ≡ z → y ≡ w → HasSameOperands g h =
        λ left right.
        (one_literal g.left h.left known.0 known_too.0 left, one_literal g.right h.right known.1 known_too.1 right) in
        let crossed : x ≡ w → y ≡ z → HasSameOperands g h =
        λ left right.
        let a : g.left ≡ h.right = one_literal g.left h.right known.0 known_too.1 left in
        let b : g.right ≡ h.left = one_literal g.right h.left known.1 known_too.0 right in
        let g_sorted : g.right ≤ g.left = sorted g g_in in
        let h_sorted : h.right ≤ h.left = sorted h h_in in
        (omega arith, omega arith) in
        ⊎_elim
        (λ (e : (max x y ≡ x) × (min x y ≡ y)).
        ⊎_elim
        (λ (k : (max z w ≡ z) × (min z w ≡ w)). straight (sym e.0 ∙ same.0 ∙ k.0) (sym e.1 ∙ same.1 ∙ k.1))
        (λ (k : (max z w ≡ w) × (min z w ≡ z)). crossed (sym e.0 ∙ same.0 ∙ k.0) (sym e.1 ∙ same.1 ∙ k.1))
        (larger_first z w))
        (λ (e : (max x y ≡ y) × (min x y ≡ x)).
        ⊎_elim
        (λ (k : (max z w ≡ z) × (min z w ≡ w)). crossed (sym e.1 ∙ same.1 ∙ k.1) (sym e.0 ∙ same.0 ∙ k.0))
        (λ (k : (max z w ≡ w) × (min z w ≡ z)). straight (sym e.1 ∙ same.1 ∙ k.1) (sym e.0 ∙ same.0 ∙ k.0))
        (larger_first z w))
        (larger_first x y)

    pub image_has_nothing_to_fold : UsesEachGate c → HasNothingToFold c → HasNothingToFold new
    image_has_nothing_to_fold uses none = record {
      needed = λ h h_in used.
          let g = source_gate h h_in in
          subst (λ (x : Gate). NeedsGate x.left x.right) g.2
          (still_needed g.0 g.1 (none.needed g.0 g.1 (uses g.0 g.1)));
      apart = λ h k h_in k_in h_used k_used same.
          let g = source_gate h h_in in
          let e = source_gate k k_in in
          let alike : HasSameOperands (numbered_gate f g.0) (numbered_gate f e.0) =
          subst (λ (x : Gate). HasSameOperands x (numbered_gate f e.0)) (sym g.2)
          (subst (HasSameOperands h) (sym e.2) same) in
          sym g.2
          ∙ ap (numbered_gate f) (none.apart g.0 e.0 g.1 e.1 (uses g.0 g.1) (uses e.0 e.1)
          (same_sources g.0 e.0 g.1 e.1 alike))
          ∙ e.2;
    }

-- with what the code has at hand
pub image_is_simple : (c image : Circuit) → IsWellFormed c → ((g : Gate) → Contains c.gates g → g.right ≤ g.left)
    → IsBinaryImage c image → UsesEachGate c → HasNothingToFold c → UsesEachGate image × HasNothingToFold image
image_is_simple c image good sorted is uses none =
    subst (λ (d : Circuit). UsesEachGate d × HasNothingToFold d) (sym is.2) (
      image_uses_each_gate c is.0 good is.1 uses,
      image_has_nothing_to_fold c is.0 good is.1 sorted uses none,
    )
