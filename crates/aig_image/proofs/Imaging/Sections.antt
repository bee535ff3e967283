-- The image of a well-formed circuit is in binary order.
use Rattle.std.proofs.lemmas.Grind.{common_steps}
use Rattle.std.proofs.Common.{◌≡◌, ◌+◌, ◌<◌, ◌≤◌, ◌++◌, ◌∙◌, rules, ℕ, List, [], length, length-append, map, refl, sym}
use Rattle.std.proofs.Common.{ap, ap₂, subst, append_assoc, arith}
use Rattle.std.specs.List.{AllByRecursion, range_with_len}
use Rattle.std.proofs.lemmas.List.{length-map}
use Rattle.std.proofs.lemmas.Simd.{map-map}
use Rattle.aig_circuit.specs.declared.circuit.Latch.{Latch}
use Rattle.aig_circuit.specs.declared.circuit.Gate.{Gate}
use Rattle.aig_circuit.specs.declared.circuit.Circuit.{Circuit}
use Rattle.aig_circuit.specs.Wellformed.{IsAmong, IsKnown, IsVariableUpTo, IsWellFormed, defined_variables, operands}
use Rattle.aig_topo.specs.Order.{IsLeastReadyOrder}
use Rattle.aig_circuit.proofs.Checking.{each, all_weaker, front, back}
use Rattle.aig_topo.proofs.Ordering.Ranked.{at, no_gate, variables}
use Rattle.aig_checked.specs.BinaryOrder.{AreOrderedGates, IsInBinaryOrder}
use Rattle.aig_image.specs.Image.{image_by}
use Rattle.aig_image.specs.Relabelled.{relabelled_gate, relabelled_latch}
use Rattle.aig_image.specs.Reordered.{operands_sorted, taken}
use Rattle.aig_image.specs.Renumbering.{renumbered}
use Rattle.aig_image.proofs.Imaging.InTurn.{in_turn, renumbered_gate, some_gate, taken_variables, new, gates_once}
use Rattle.aig_image.proofs.Imaging.InTurn.{new_once}
use Rattle.aig_image.proofs.Numbering.Places.{numbered_on, at_place}
use Rattle.aig_image.proofs.Relabelling.Formed.{latches_there}
use Rattle.aig_image.proofs.Relabelling.Permuted.{gate_by_gate}
use Rattle.aig_image.proofs.Relabelling.Relabelled.{taken_mapped}

-- the gates of an image, one by one
image_gates : (vs : List ℕ) (gates : List Gate) (order : List ℕ)
    → map operands_sorted (taken (map (relabelled_gate (renumbered vs)) gates) order)
    ≡ map (renumbered_gate vs) (taken gates order)
image_gates vs gates order = search (rules, taken_mapped, map-map)

module _ (c : Circuit) (order : List ℕ) (good : IsWellFormed c) (least : IsLeastReadyOrder c order) where
  abbrev vs : List ℕ
  vs = new c order good least

  abbrev number : ℕ → ℕ
  number = renumbered vs

  abbrev latches : List ℕ
  latches = map (λ (l : Latch). l.var) c.latches

  abbrev last : List ℕ
  last = taken_variables c.gates order

  abbrev InRange : ℕ → Type 0
  InRange = IsVariableUpTo c.max_var

  first_in_range : AllByRecursion InRange (c.inputs ++ latches)
  first_in_range = front InRange (c.inputs ++ latches) (variables c.gates) good.in_range

  some : (vars : List ℕ) → AllByRecursion InRange vars → AllByRecursion (λ v. 1 ≤ v) vars
  some vars all = all_weaker InRange (λ v. 1 ≤ v) (λ v r. r.0) vars all

  known : (g l : ℕ) → g < length c.gates → IsAmong l (operands (at c.gates g)) → IsKnown (defined_variables c) l
  known g l there a = search (rules, at_place, no_gate, gate_by_gate, back, each, at)

  many : length (c.inputs ++ latches) ≡ length (map number c.inputs) + length (map (relabelled_latch number) c.latches)
  many = grind (arith, common_steps)

  abbrev new_gates : List Gate
  new_gates = map operands_sorted (taken (map (relabelled_gate number) c.gates) order)

  gates_many : length last ≡ length new_gates
  gates_many = grind (arith, common_steps)

  pub in_binary_order : IsInBinaryOrder (image_by order c)
  in_binary_order =
      let once = new_once c order good least in
      let gates : AreOrderedGates (1 + length (c.inputs ++ latches)) (map (renumbered_gate vs) (taken c.gates order)) =
      in_turn c.gates (c.inputs ++ latches) vs once (gates_once c order good least) (some_gate c good) known []
      (c.inputs ++ latches) order (λ h a. absurd a, λ v a. a) least.in_turn refl in record {
        inputs =
            numbered_on vs [] c.inputs (latches ++ last) once
            (some c.inputs (front InRange c.inputs latches first_in_range)) (append_assoc c.inputs latches last)
            ∙ ap (range_with_len 1) (sym (length-map c.inputs number));
        latches =
            latches_there number c.latches
            ∙ numbered_on vs c.inputs latches last once (some latches (back InRange c.inputs latches first_in_range))
            (append_assoc c.inputs latches last)
            ∙ ap₂ (λ a b. range_with_len (1 + a) b) (sym (length-map c.inputs number))
            (search (rules, length-map));
        gates =
            subst
            (AreOrderedGates (1 + length (map number c.inputs) + length (map (relabelled_latch number) c.latches)))
            (sym (image_gates vs c.gates order))
            (search (rules, renumbered_gate, many));
        all = omega (arith, many, gates_many, length-append (c.inputs ++ latches) last);
      }
