-- The unrolled circuit of a circuit in binary order is in binary order, and well formed where it is not too large.
use Rattle.std.proofs.Common.{◌≡◌, ◌+◌, ◌*◌, ◌<◌, ◌≤◌, ◌∷◌, ◌++◌, ◌∙◌, ℕ, zero, suc, List, [], length, map, max, min}
use Rattle.std.proofs.Common.{refl, sym, ap, subst, add-one, arith, rules, ap₂}
use Rattle.std.specs.List.{AllByRecursion, flat_map, range_with_len, concat}
use Rattle.std.proofs.lemmas.Bool.{cases_lt}
use Rattle.std.proofs.lemmas.List.FromFn.{length-range_with_len}
use Rattle.std.proofs.lemmas.List.{length-map}
use Rattle.std.proofs.lemmas.Simd.{map-map}
use Rattle.aig_circuit.specs.declared.circuit.Gate.{Gate}
use Rattle.aig_circuit.specs.declared.circuit.Circuit.{Circuit}
use Rattle.aig_circuit.specs.Literal.{literal_of}
use Rattle.aig_circuit.specs.declared.circuit.Latch.{Latch}
use Rattle.aig_circuit.specs.declared.circuit.TheConstants.{LARGEST}
use Rattle.aig_circuit.specs.Form.{IsLiteralUpTo}
use Rattle.aig_circuit.specs.Wellformed.{IsWellFormed, IsWithinLimits, literal_lists, operands}
use Rattle.aig_circuit.proofs.Checking.{all_weaker, well_formed_in_form, front, back, each_of}
use Rattle.aig_topo.specs.Order.{IsLeastReadyOrder}
use Rattle.aig_checked.specs.BinaryOrder.{AreOrderedGates, IsInBinaryOrder}
use Rattle.aig_checked.proofs.Numbered.{each_in_range, well_formed}
use Rattle.aig_rows.proofs.Grammar.Entries.{all_mapped}
use Rattle.aig_image.specs.Image.{IsBinaryImage, image_by}
use Rattle.aig_image.specs.Relabelled.{relabelled_gate}
use Rattle.aig_image.specs.Renumbering.{in_new_order, renumbered}
use Rattle.aig_image.proofs.Imaging.InTurn.{all_taken}
use Rattle.aig_image.proofs.Imaging.Ordered.{image_is_ordered, image_is_one}
use Rattle.aig_unroll.specs.Unrolled.{at, chain_at, chained, copied, first_bad, first_constraint, first_gate, gates_at}
use Rattle.aig_unroll.specs.Unrolled.{guarded, next_of, IsTooLarge, all_inputs, bad_at, frame_size, outputs_at}
use Rattle.aig_unroll.specs.Unrolled.{unrolled, IsUnrolled, resets_of, uninitialised}
use Rattle.aig_unroll.proofs.Ordering.Frames.{chain_length, copies_length, frame_length, next_gate, bad_length}
use Rattle.aig_unroll.proofs.Ordering.Frames.{gates_length, outputs_length, all_rows, row_end}
use Rattle.aig_unroll.proofs.Ordering.Lower.{IsBelow, all_at_below, all_below_more, at_below, chain_at_below}
use Rattle.aig_unroll.proofs.Ordering.Lower.{chain_behind_below, own_end, own_gates}

-- a gate over lower literals, the larger one first
lower_operands : (v a b : ℕ) → IsBelow v a → IsBelow v b → (max a b < 2 * v) × (min a b ≤ max a b)
lower_operands v a b low_a low_b = (omega arith, omega arith)

pub ordered_joined : (v w : ℕ) (gs hs : List Gate) → w ≡ v + length gs → AreOrderedGates v gs → AreOrderedGates w hs
    → AreOrderedGates v (gs ++ hs)
ordered_joined v w [] hs next front back = subst (λ n. AreOrderedGates n hs) (omega arith) back
ordered_joined v w (g ∷ gs) hs next front back =
    (front.0, front.1, front.2, ordered_joined (suc v) w gs hs (omega arith) front.3 back)

-- Copies of ordered gates are ordered, where literals below each gate go to literals below its copy.
pub copied_ordered : (f : ℕ → ℕ) (m n : ℕ) → ((k literal : ℕ) → IsBelow (m + k) literal → IsBelow (n + k) (f literal))
    → (k v w : ℕ) (gs : List Gate) → v ≡ m + k → w ≡ n + k → AreOrderedGates v gs → AreOrderedGates w (copied f w gs)
copied_ordered f m n goes k v w [] v_is w_is ordered = tt
copied_ordered f m n goes k v w (g ∷ gs) v_is w_is ordered =
    let var : g.var ≡ v = ordered.0 in
    let first : g.left < 2 * g.var = ordered.1 in
    let second : g.right ≤ g.left = ordered.2 in
    let left : IsBelow (n + k) (f g.left) = goes k g.left (omega arith) in
    let right : IsBelow (n + k) (f g.right) = goes k g.right (omega arith) in
    let lower = lower_operands w (f g.left) (f g.right) (omega arith) (omega arith) in (
      refl,
      lower.0,
      lower.1,
      subst (λ x. AreOrderedGates (suc w) (copied f x gs)) (sym (add-one w))
          (copied_ordered f m n goes (k + 1) (suc v) (suc w) gs (omega arith) (omega arith) ordered.3),
    )

pub chained_ordered : (v chain : ℕ) (xs : List ℕ) → IsBelow v chain → AllByRecursion (IsBelow v) xs
    → AreOrderedGates v (chained v chain xs)
chained_ordered v chain [] below all = tt
chained_ordered v chain (x ∷ xs) below all =
    search (
      rules,
      lower_operands,
      add-one,
      all_below_more,
      chained_ordered (v + 1) (literal_of v) xs (omega arith) (all_below_more v (v + 1) (omega arith) xs all.1),
    )

pub guarded_ordered : (v chain : ℕ) (xs : List ℕ) → IsBelow v chain → AllByRecursion (IsBelow v) xs
    → AreOrderedGates v (guarded v chain xs)
guarded_ordered v chain [] below all = tt
guarded_ordered v chain (x ∷ xs) below all =
    search (
      rules,
      lower_operands,
      add-one,
      all_below_more,
      guarded_ordered (v + 1) chain xs (omega arith) (all_below_more v (v + 1) (omega arith) xs all.1),
    )

module _ (c : Circuit) (frames : ℕ) (ordered : AreOrderedGates (own_gates c) c.gates)
    (next_below : AllByRecursion (IsBelow (own_end c frames)) (next_of c))
    (constraints_below : AllByRecursion (IsBelow (own_end c frames)) c.constraints)
    (bad_below : AllByRecursion (IsBelow (own_end c frames)) c.bad) where
  pub frame_ordered : (t : ℕ) → t < frames → AreOrderedGates (first_gate c frames t) (gates_at c frames t)
  frame_ordered t there =
      let start : ℕ = first_gate c frames t in
      let chain_start : ℕ = first_constraint c frames t in
      let bad_start : ℕ = first_bad c frames t in
      let copies : List Gate = copied (at c frames t) start c.gates in
      let own = copied_ordered (at c frames t) (own_gates c) start
      (λ k literal. at_below c frames next_below t k literal there) 0 (own_gates c) start c.gates (omega arith)
      (omega arith) ordered in
      let before : IsBelow start (chain_at c frames t) = chain_at_below c frames t in
      let constraints : List ℕ = map (at c frames t) c.constraints in
      let held = chained_ordered chain_start (chain_at c frames t) constraints (omega arith)
      (all_at_below c frames next_below t there c.constraints constraints_below) in
      let bads : List ℕ = map (at c frames t) c.bad in
      let seen = guarded_ordered bad_start (chain_at c frames (suc t)) bads (chain_behind_below c frames t)
      (all_below_more chain_start bad_start (omega arith) bads
      (all_at_below c frames next_below t there c.bad bad_below)) in
      ordered_joined start chain_start copies
      (chained chain_start (chain_at c frames t) constraints ++ guarded bad_start (chain_at c frames (suc t)) bads)
      (omega (arith, copies_length c frames t)) own
      (ordered_joined chain_start bad_start (chained chain_start (chain_at c frames t) constraints)
      (guarded bad_start (chain_at c frames (suc t)) bads) (omega (arith, chain_length c frames t)) held seen)

  pub frames_ordered : (s n : ℕ) → s + n ≤ frames
      → AreOrderedGates (first_gate c frames s) (flat_map (gates_at c frames) (range_with_len s n))
  frames_ordered s zero fits = tt
  frames_ordered s (suc n) fits =
      let later = frames_ordered (s + 1) n (omega arith) in
      let next : first_gate c frames (s + 1) ≡ first_gate c frames (suc s) = ap (first_gate c frames) (add-one s) in
      ordered_joined (first_gate c frames s) (first_gate c frames (s + 1)) (gates_at c frames s)
      (flat_map (gates_at c frames) (range_with_len (s + 1) n))
      (omega (arith, next, next_gate c frames s, frame_length c frames s)) (frame_ordered s (omega arith)) later

-- The unrolled circuit of a circuit in binary order is in binary order, and well formed where it is not too large.
module _ (c : Circuit) (frames : ℕ) (good : IsWellFormed c) (ordered : IsInBinaryOrder c) where
  abbrev end : ℕ
  end = own_end c frames

  below_end : (xs : List ℕ) → AllByRecursion (IsLiteralUpTo c.max_var) xs → AllByRecursion (IsBelow end) xs
  below_end = all_weaker (IsLiteralUpTo c.max_var) (IsBelow end) (λ l fits. omega (arith, ordered.all))

  nexts_and_lists : AllByRecursion (IsLiteralUpTo c.max_var)
      (map (λ (l : Latch). l.next) c.latches ++ concat (literal_lists c))
  nexts_and_lists =
      front (IsLiteralUpTo c.max_var) (map (λ (l : Latch). l.next) c.latches ++ concat (literal_lists c))
      (flat_map operands c.gates) (well_formed_in_form c good).literals

  pub next_below : AllByRecursion (IsBelow end) (next_of c)
  next_below =
      below_end (next_of c)
      (front (IsLiteralUpTo c.max_var) (next_of c) (concat (literal_lists c)) nexts_and_lists)

  lists : AllByRecursion (AllByRecursion (IsLiteralUpTo c.max_var)) (literal_lists c)
  lists =
      each_of (IsLiteralUpTo c.max_var) (literal_lists c)
      (back (IsLiteralUpTo c.max_var) (next_of c) (concat (literal_lists c)) nexts_and_lists)

  outputs_below : AllByRecursion (IsBelow end) c.outputs
  outputs_below = below_end c.outputs lists.0

  pub bad_below : AllByRecursion (IsBelow end) c.bad
  bad_below = below_end c.bad lists.1.0

  pub constraints_below : AllByRecursion (IsBelow end) c.constraints
  constraints_below = below_end c.constraints lists.1.1.0

  abbrev d : Circuit
  d = unrolled c frames

  -- all gates of a frame stand within the unrolled circuit
  frame_fits : (t : ℕ) → t < frames → first_gate c frames t + frame_size c ≤ d.max_var + 1
  frame_fits t there = omega (arith, row_end (frame_size c) t frames there)

  outputs_up_to : AllByRecursion (IsLiteralUpTo d.max_var) d.outputs
  outputs_up_to =
      all_rows (IsLiteralUpTo d.max_var) (outputs_at c frames) frames 0 frames
      (λ t there.
      all_weaker (IsBelow (first_gate c frames t + length c.gates)) (IsLiteralUpTo d.max_var)
      (λ l below. omega (arith, frame_fits t there)) (outputs_at c frames t)
      (all_at_below c frames next_below t there c.outputs outputs_below))
      (omega arith)

  bad_up_to : AllByRecursion (IsLiteralUpTo d.max_var) d.bad
  bad_up_to =
      all_rows (IsLiteralUpTo d.max_var) (bad_at c frames) frames 0 frames
      (λ t there.
      let first : ℕ = first_bad c frames t in
      let fits = frame_fits t there in
      all_mapped (λ v. v < first + length c.bad) (IsLiteralUpTo d.max_var) literal_of (λ v below. omega arith)
      (range_with_len first (length c.bad))
      (each_in_range (λ v. v < first + length c.bad) first (length c.bad) (λ v low high. high)))
      (omega arith)

  pub unrolled_ordered : IsInBinaryOrder d
  unrolled_ordered =
      let inputs : length d.inputs ≡ all_inputs c frames = length-range_with_len 1 (all_inputs c frames) in
      record {
        inputs = ap (range_with_len 1) (sym inputs);
        latches = refl;
        gates =
            subst (λ v. AreOrderedGates v d.gates) (omega (arith, inputs))
            (frames_ordered c frames ordered.gates next_below constraints_below bad_below 0 frames (omega arith));
        all = omega (arith, inputs, gates_length c frames 0 frames);
      }

  module _ (small : ¬ IsTooLarge c frames) where
    variables_fit : d.max_var ≤ LARGEST
    variables_fit = search (rules, cases_lt)

    outputs_fit : frames * length c.outputs ≤ LARGEST
    outputs_fit = search (rules, cases_lt)

    bad_fit : frames * length c.bad ≤ LARGEST
    bad_fit = search (rules, cases_lt)

    limits : IsWithinLimits d
    limits = record {
      max_var = variables_fit;
      inputs = omega (arith, variables_fit, length-range_with_len 1 (all_inputs c frames));
      latches = omega arith;
      literals = (
        omega (arith, outputs_fit, outputs_length c frames 0 frames),
        (omega (arith, bad_fit, bad_length c frames 0 frames), (omega arith, (omega arith, (omega arith, tt)))),
      );
      justice = omega arith;
      sizes = refl;
      gates = omega (arith, variables_fit, gates_length c frames 0 frames);
    }

    pub unrolled_well_formed : IsWellFormed d
    unrolled_well_formed =
        well_formed d unrolled_ordered (tt, (outputs_up_to, (bad_up_to, (tt, (tt, (tt, tt)))))) limits
        (record { positions = tt; apart = tt; lines = tt })

-- The binary image of a circuit has as many of each as the circuit, so both unroll to circuits of one size.

-- as many of each that bounds the size of what is unrolled
pub record HasCountsOf (c image : Circuit) : Type 0 where
  pub resets : resets_of image ≡ resets_of c
  pub inputs : length image.inputs ≡ length c.inputs
  pub latches : length image.latches ≡ length c.latches
  pub outputs : length image.outputs ≡ length c.outputs
  pub bad : length image.bad ≡ length c.bad
  pub constraints : length image.constraints ≡ length c.constraints
  pub gates : length image.gates ≡ length c.gates

module _ (c : Circuit) (order : List ℕ) (good : IsWellFormed c) (least : IsLeastReadyOrder c order) where
  abbrev number : ℕ → ℕ
  number = renumbered (in_new_order c order)

  abbrev renamed_gates : List Gate
  renamed_gates = map (relabelled_gate number) c.gates

  counts_kept : HasCountsOf c (image_by order c)
  counts_kept = search (rules, map-map, length-map, all_taken)

pub image_counts : (c image : Circuit) → IsWellFormed c → IsBinaryImage c image → HasCountsOf c image
image_counts c image good is = subst (HasCountsOf c) (sym is.2) (counts_kept c is.0 good is.1)

module _ (c image : Circuit) (frames : ℕ) (same : HasCountsOf c image) where
  pub same_inputs : all_inputs image frames ≡ all_inputs c frames
  same_inputs = ap₂ (λ m n. uninitialised m + frames * n) same.resets same.inputs

  same_frame_size : frame_size image ≡ frame_size c
  same_frame_size = omega (arith, same.gates, same.constraints, same.bad)

  -- so neither is too large where the other is not
  pub as_large : IsTooLarge image frames → IsTooLarge c frames
  as_large = search (rules, same_frame_size, same_inputs)

pub unrolled_is_ordered : (c d : Circuit) (frames : ℕ) → IsWellFormed c → IsUnrolled c frames d → ¬ IsTooLarge c frames
    → IsWellFormed d × IsInBinaryOrder d
unrolled_is_ordered c d frames good is small =
    let image : Circuit = is.0 in
    let formed = image_is_ordered c image good is.1 in
    let fits : ¬ IsTooLarge image frames =
    λ large. small (as_large c image frames (image_counts c image good is.1) large) in
    subst (λ (x : Circuit). IsWellFormed x × IsInBinaryOrder x) (sym is.2)
    (unrolled_well_formed image frames formed.0 formed.1 fits, unrolled_ordered image frames formed.0 formed.1)

pub one_unrolled : (c : Circuit) (frames : ℕ)
    → (d : Circuit) × IsUnrolled c frames d × ((other : Circuit) → IsUnrolled c frames other → other ≡ d)
one_unrolled c frames =
    let made = image_is_one c in (
      unrolled made.0 frames,
      (made.0, made.1, refl),
      λ other is. is.2 ∙ ap (λ image. unrolled image frames) (made.2 is.0 is.1),
    )
