-- The image of a well-formed circuit is well formed, since each step to it keeps a circuit well formed.
use Rattle.std.proofs.Common.{◌≡◌, ◌+◌, ◌∙◌, rules, ℕ, List, length, map, refl, sym, subst, arith, ap}
use Rattle.std.proofs.lemmas.List.{length-map}
use Rattle.aig_circuit.specs.declared.circuit.Gate.{Gate}
use Rattle.aig_circuit.specs.declared.circuit.Circuit.{Circuit}
use Rattle.aig_circuit.specs.Wellformed.{IsVariableUpTo, IsWellFormed}
use Rattle.aig_checked.specs.BinaryOrder.{IsInBinaryOrder}
use Rattle.aig_topo.specs.Order.{IsLeastReadyOrder}
use Rattle.aig_topo.proofs.Ordering.Ranked.{all_of}
use Rattle.aig_topo.proofs.Ordering.LeastReady.{a_least_ready_order, one_least_ready_order}
use Rattle.aig_image.specs.Image.{IsBinaryImage, image_by}
use Rattle.aig_image.specs.Relabelled.{relabelled, relabelled_gate, NamesOnly}
use Rattle.aig_image.specs.Reordered.{reordered, has_smaller_first, ArePlaces, positions_of}
use Rattle.aig_image.specs.Renumbering.{in_new_order, renumbered, source_variable}
use Rattle.aig_image.proofs.Imaging.InTurn.{new_fits, order_is_places, back, one_to_one, many}
use Rattle.aig_image.proofs.Relabelling.Permuted.{exchange_keeps_form, sorted_by_flags, order_keeps_form}
use Rattle.aig_image.proofs.Relabelling.Formed.{form_is_kept}
use Rattle.aig_image.proofs.Relabelling.Relabelled.{names_only, with_gates}
use Rattle.aig_image.proofs.Imaging.Sections.{in_binary_order}

module _ (c : Circuit) (order : List ℕ) (good : IsWellFormed c) (least : IsLeastReadyOrder c order) where
  abbrev vs : List ℕ
  vs = in_new_order c order

  -- each new number goes back to its variable
  pub names_go_back : NamesOnly (λ v. source_variable vs (renumbered vs v) ≡ v) c
  names_go_back = search (rules, names_only, all_of, back)

  abbrev new : Circuit
  new = record (relabelled (renumbered vs) c) { max_var = length vs }

  new_is_well_formed : IsWellFormed new
  new_is_well_formed =
      let onto = one_to_one c order good least in
      let all : length vs ≡ length c.inputs + length c.latches + length c.gates = many c order good least in
      let InRange : ℕ → Type 0 = λ v. IsVariableUpTo (length vs) (renumbered vs v) in
      form_is_kept (renumbered vs) (source_variable vs) (length vs) c.comment c good refl names_go_back
      (omega (arith, new_fits c order good least, good.limits.max_var))
      (search (rules, all_of))

  image_is_well_formed : IsWellFormed (image_by order c)
  image_is_well_formed =
      let are = order_is_places c order good least in
      let as_many : length c.gates ≡ length new.gates = sym (length-map c.gates (relabelled_gate (renumbered vs))) in
      let placed : Circuit = reordered order new in
      let good_placed : IsWellFormed placed =
      order_keeps_form order (positions_of order) new (subst (ArePlaces order (positions_of order)) as_many are.1)
      (subst (ArePlaces (positions_of order) order) as_many are.0) new_is_well_formed in
      subst (λ (gs : List Gate). IsWellFormed (with_gates gs placed)) (sym (sorted_by_flags placed.gates))
      (exchange_keeps_form (map has_smaller_first placed.gates) placed good_placed)

pub image_is_ordered : (c image : Circuit) → IsWellFormed c → IsBinaryImage c image
    → IsWellFormed image × IsInBinaryOrder image
image_is_ordered c image good is = search (rules, image_is_well_formed, in_binary_order)

pub image_is_one : (c : Circuit)
    → (image : Circuit) × IsBinaryImage c image × ((other : Circuit) → IsBinaryImage c other → other ≡ image)
image_is_one c =
    let made = a_least_ready_order c in (
      image_by made.0 c,
      (made.0, made.1, refl),
      λ other is. is.2 ∙ ap (λ order. image_by order c) (one_least_ready_order c is.0 made.0 is.1 made.1),
    )
