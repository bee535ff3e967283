-- The mapped image of a well-formed circuit is well formed and in binary order, and there is exactly one.
use Rattle.std.proofs.Common.{◌≡◌, ◌∙◌, ◌+◌, ◌-◌, ◌≤◌, ◌++◌, rules, ℕ, List, refl, sym, ap, ap₂, subst, length, arith}
use Rattle.std.proofs.Common.{map, min, None, length-append, Option, unwrap_or}
use Rattle.std.specs.List.{range_with_len}
use Rattle.std.proofs.Math.Nat.{min-eq_left}
use Rattle.std.proofs.lemmas.Simd.{pick_l_whole}
use Rattle.std.proofs.lemmas.List.{length-map}
use Rattle.aig_circuit.specs.declared.circuit.Circuit.{Circuit}
use Rattle.aig_circuit.specs.Wellformed.{IsWellFormed}
use Rattle.aig_circuit.specs.declared.circuit.Gate.{Gate}
use Rattle.aig_circuit.specs.declared.circuit.TheConstants.{LARGEST}
use Rattle.aig_circuit.specs.declared.circuit.Latch.{Latch}
use Rattle.aig_circuit.proofs.Checking.{definitions_fit, all_weaker}
use Rattle.aig_topo.proofs.Ordering.LeastReady.{a_least_ready_order, one_least_ready_order}
use Rattle.aig_topo.proofs.Ordering.Ranked.{no_gate, variables}
use Rattle.aig_checked.specs.BinaryOrder.{IsInBinaryOrder, IsNumberedInOrder}
use Rattle.aig_checked.proofs.Numbered.{numbered_variables_are}
use Rattle.aig_image.specs.Image.{image_by, IsBinaryImage}
use Rattle.aig_image.specs.declared.image.Renumbering.{Renumbering}
use Rattle.aig_image.specs.Parts.Numbers.{number_of, IsRenumberingOf}
use Rattle.aig_image.specs.Relabelled.{NamesOnly, relabelled}
use Rattle.aig_image.specs.Renumbering.{in_new_order, renumbered}
use Rattle.aig_image.specs.Reordered.{has_smaller_first, with_operands_sorted}
use Rattle.aig_image.proofs.Imaging.Ordered.{image_is_ordered}
use Rattle.aig_image.proofs.Relabelling.Formed.{symbols_kept, counts_kept}
use Rattle.aig_image.proofs.Relabelling.Relabelled.{map_where, same_gate, names_only}
use Rattle.aig_image.proofs.Imaging.Renewed.{same_names, made_is_image}
use Rattle.aig_image.proofs.Imaging.OwnImage.{numbered_in_order, sorted_image, same_variable}
use Rattle.aig_map.specs.MapBlock.{mapped_by, IsMappedImage, block_by, map_block}
use Rattle.aig_map.specs.Parts.Kept.{with_block}
use Rattle.aig_map.specs.declared.map_block.MappedGate.{MappedGate}
use Rattle.aig_map.specs.declared.map_block.MapBlock.{MapBlock}

-- the same circuit with another comment
module _ (c : Circuit) (comment : Option (List ℕ)) where
  abbrev with_comment : Circuit
  with_comment = record c { comment = comment }

  -- it is well formed too
  pub comment_is_free : IsWellFormed c → IsWellFormed with_comment
  comment_is_free good = search (rules, symbols_kept, counts_kept)

  -- and in binary order
  pub comment_keeps_order : IsInBinaryOrder c → IsInBinaryOrder with_comment
  comment_keeps_order ordered = search rules

abbrev IsGood : Circuit → Type 0
IsGood c = IsWellFormed c × IsInBinaryOrder c

-- the mapped image differs from the image in its comment alone
pub mapped_image_is_ordered : (c image : Circuit) → IsWellFormed c → IsMappedImage c image
    → IsWellFormed image × IsInBinaryOrder image
mapped_image_is_ordered c image good (order, least, is) =
    let plain : Circuit = image_by order c in
    let ordered : IsGood plain = image_is_ordered c plain good (order, least, refl) in
    let comment : Option (List ℕ) = (mapped_by order c).comment in
    subst IsGood (sym is) (comment_is_free plain comment ordered.0, comment_keeps_order plain comment ordered.1)

-- the gates have one least ready order, so there is one mapped image
pub mapped_image_is_one : (c : Circuit) → IsWellFormed c
    → (image : Circuit) × IsMappedImage c image × IsWellFormed image × IsInBinaryOrder image
    × ((other : Circuit) → IsMappedImage c other → other ≡ image)
mapped_image_is_one c good =
    let made = a_least_ready_order c in
    let image : Circuit = mapped_by made.0 c in
    let is : IsMappedImage c image = (made.0, made.1, refl) in
    let ordered = mapped_image_is_ordered c image good is in (
      image,
      is,
      ordered.0,
      ordered.1,
      λ other (order, least, also). also
          ∙ ap (λ at. mapped_by at c) (one_least_ready_order c order made.0 least made.1),
    )

-- what is recorded of a gate, by the gate that it becomes
abbrev of_new : ℕ → Gate → Gate → MappedGate
of_new first g new = record { var = g.var; place = new.var - first; exchanged = has_smaller_first new }

module _ (c : Circuit) (order : List ℕ) (number : ℕ → ℕ)
    (same : NamesOnly (λ v. number v ≡ renumbered (in_new_order c order) v) c) where
  abbrev new_number : ℕ → ℕ
  new_number = renumbered (in_new_order c order)

  abbrev first : ℕ
  first = 1 + length c.inputs + length c.latches

  -- what is recorded is the map block, where what the circuit names has its new number
  block_is : block_by number c ≡ map_block order c
  block_is = search (rules, map_where, same_gate)

-- the first gate's number is small
pub few_before_gates : (c : Circuit) → IsWellFormed c → length c.inputs + length c.latches ≤ LARGEST
few_before_gates c good = omega (arith, definitions_fit c good, good.limits.max_var)

-- the binary image with a block that records the circuit
pub is_mapped_image : (c : Circuit) (r : Renumbering) (block : MapBlock) (image : Circuit) → IsWellFormed c
    → IsRenumberingOf c r → block ≡ block_by (number_of r.numbers) c → IsBinaryImage c image
    → IsMappedImage c (with_block block image)
is_mapped_image c r block image good of_it tells (order, least, is) =
    let same : of_it.order ≡ order = one_least_ready_order c of_it.order order of_it.least least in
    let map_is = tells
    ∙ block_is c of_it.order (number_of r.numbers)
    (same_names c of_it.order good of_it.least (number_of r.numbers) of_it.numbers.numbers)
    ∙ ap (λ at. map_block at c) same in
    (order, least, ap₂ with_block map_is is)

-- A circuit whose variables are numbered in order, with its map and its operands sorted, is its mapped image.

-- the label of a variable that keeps it
abbrev pub kept : ℕ → ℕ
kept v = min v LARGEST

module _ (c : Circuit) (good : IsWellFormed c) (numbered : IsNumberedInOrder c) where
  abbrev order : List ℕ
  order = range_with_len 0 (length c.gates)

  abbrev all : List ℕ
  all = range_with_len 1 c.max_var

  new_is : in_new_order c order ≡ all
  new_is =
      ap (λ gates. (c.inputs ++ map (λ (l : Latch). l.var) c.latches) ++ variables gates)
      (pick_l_whole no_gate c.gates (length c.gates) refl)
      ∙ numbered_variables_are c numbered

  -- each variable is its own new number
  names_stay : NamesOnly (λ v. kept v ≡ renumbered all v) c
  names_stay =
      let Same : ℕ → Type 0 = λ v. kept v ≡ renumbered all v in
      names_only Same c refl
      (search (rules, all_weaker, min-eq_left, same_variable))
      good

  pub with_map_is_image : (block : MapBlock) → block ≡ block_by kept c
      → IsMappedImage c (with_block block (with_operands_sorted c))
  with_map_is_image block tells =
      let own = sorted_image c good numbered in
      let least = numbered_in_order c numbered in
      let same : order ≡ own.0 = one_least_ready_order c order own.0 least own.1 in
      let names : NamesOnly (λ v. kept v ≡ renumbered (in_new_order c order) v) c = rw new_is names_stay in
      let map_is = tells ∙ block_is c order kept names ∙ ap (λ at. map_block at c) same in
      (own.0, own.1, ap₂ with_block map_is own.2)

-- the larger operand of each gate first, and as many variables as are defined
abbrev pub all_sorted : Circuit → Circuit
all_sorted c = record (with_operands_sorted c) {
  max_var = length c.inputs + length c.latches + length c.gates;
}

module _ (c : Circuit) (r : Renumbering) (good : IsWellFormed c) (of_it : IsRenumberingOf c r)
    (in_order : r.taken ≡ None) where
  abbrev f : ℕ → ℕ
  f = number_of r.numbers

  abbrev pub made : Circuit
  made = all_sorted (relabelled f c)

  gates_are : c.gates ≡ unwrap_or r.taken c.gates
  gates_are = ap (λ t. unwrap_or t c.gates) (sym in_order)

  count_is : made.max_var ≡ r.numbers.noted
  count_is = search (rules, variables, gates_are, length-append, length-map)

  pub made_is : IsBinaryImage c made
  made_is = made_is_image c r made c.gates good of_it (search (rules, count_is)) gates_are
