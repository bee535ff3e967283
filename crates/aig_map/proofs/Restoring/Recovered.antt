-- What is undone of a circuit's mapped image, by the block of that image, is the circuit.
use Rattle.std.proofs.Common.{◌≡◌, ◌+◌, ◌<◌, ◌++◌, ◌∙◌, rules, ℕ, List, [], Bool, length, length-append, get_or, map}
use Rattle.std.proofs.Common.{Option, None, Some, refl, sym, ap, ap₂, subst, arith, is_some, unwrap_or, ext_get_or}
use Rattle.std.proofs.Common.{get_or-append-add}
use Rattle.std.proofs.lemmas.List.{length-map, get_or-map}
use Rattle.std.proofs.lemmas.Simd.{map-map}
use Rattle.aig_circuit.specs.declared.circuit.Latch.{Latch}
use Rattle.aig_circuit.specs.declared.circuit.Gate.{Gate}
use Rattle.aig_circuit.specs.declared.circuit.Circuit.{Circuit}
use Rattle.aig_topo.specs.Order.{IsLeastReadyOrder}
use Rattle.aig_circuit.specs.Wellformed.{IsWellFormed}
use Rattle.aig_topo.proofs.Ordering.Ranked.{at, no_gate, variables}
use Rattle.aig_image.specs.Relabelled.{relabelled_gate}
use Rattle.aig_image.specs.Renumbering.{in_new_order, renumbered, source_variable}
use Rattle.aig_image.specs.Reordered.{ArePlaces, converted, operands_sorted, positions_of, restored, taken}
use Rattle.aig_image.proofs.Imaging.InTurn.{number_there, all_taken, order_is_places}
use Rattle.aig_image.proofs.Imaging.Ordered.{names_go_back}
use Rattle.aig_image.proofs.Numbering.Places.{positions_are}
use Rattle.aig_image.proofs.Relabelling.Permuted.{converted_in_places, converted_is_restored, variables_taken}
use Rattle.aig_map.specs.declared.map_block.MappedGate.{MappedGate}
use Rattle.aig_map.specs.declared.map_block.MapBlock.{MapBlock}
use Rattle.aig_map.specs.MapBlock.{mapped_gate, map_block, mapped_by}
use Rattle.aig_map.specs.Undone.{comment_behind, exchanges_recorded, places_recorded, source_variables, undone}
use Rattle.aig_map.proofs.Restoring.AtPositions.{by_position}

-- the comment after a block is that of the circuit
comment_kept : (comment : Option (List ℕ)) (b : MapBlock) → b.has_comment ≡ is_some comment
    → comment_behind b (unwrap_or comment []) ≡ comment
comment_kept None b has = rw has refl
comment_kept (Some text) b has = rw has refl

module _ (c : Circuit) (order : List ℕ) (good : IsWellFormed c) (least : IsLeastReadyOrder c order) where
  abbrev vs : List ℕ
  vs = in_new_order c order

  abbrev f : ℕ → ℕ
  f = renumbered vs

  abbrev g : ℕ → ℕ
  g = source_variable vs

  abbrev first : List ℕ
  first = c.inputs ++ map (λ (l : Latch). l.var) c.latches

  abbrev start : ℕ
  start = 1 + length c.inputs + length c.latches

  abbrev tell : Gate → MappedGate
  tell = mapped_gate f start

  abbrev recorded : List MappedGate
  recorded = map tell c.gates

  abbrev pub places : List ℕ
  places = places_recorded recorded

  many : length order ≡ length c.gates
  many = all_taken c order good least

  -- the gate that is taken at a place has the number of this place
  number_taken : (j : ℕ) → j < length order → f (at c.gates (get_or order j 0)).var ≡ start + j
  number_taken j low =
      let now : List Gate = taken c.gates order in
      let now_many : length now ≡ length order = length-map order (at c.gates) in
      let vars_many : length (variables now) ≡ length now = length-map now (λ (h : Gate). h.var) in
      let k : ℕ = length first + j in
      let is = get_or-append-add first (variables now) j 0
      ∙ get_or-map (λ (h : Gate). h.var) now j no_gate 0 (omega (arith, low, now_many))
      ∙ ap (λ (h : Gate). h.var) (get_or-map (at c.gates) order j 0 no_gate low) in
      search (rules, length-append, variables, length-map, number_there)

  -- the place that is recorded of a gate
  pub place_at : (i : ℕ) → i < length c.gates → get_or places i 0 ≡ (tell (at c.gates i)).place
  place_at i low = search (rules, map-map, get_or-map, no_gate)

  -- so the places that are recorded are the positions in the order
  places_are : places ≡ positions_of order
  places_are =
      let recorded_many : length recorded ≡ length c.gates = length-map c.gates tell in
      let places_many : length places ≡ length recorded = length-map recorded (λ (m : MappedGate). m.place) in
      let position = (order_is_places c order good least).1 in
      let long : length places ≡ length (positions_of order) = omega (arith, recorded_many, places_many, position.0) in
      ext_get_or 0 places (positions_of order) long (λ i below.
      let low : i < length c.gates = omega (arith, below, places_many, recorded_many) in
      search (rules, number_taken, at, place_at))

  pub are : ArePlaces order places (length c.gates)
  are = subst (λ ps. ArePlaces order ps (length c.gates)) (sym places_are) (order_is_places c order good least).1

  pub too : ArePlaces places order (length c.gates)
  too = subst (λ ps. ArePlaces ps order (length c.gates)) (sym places_are) (order_is_places c order good least).0

  -- and the order is recorded
  pub order_is : positions_of places ≡ order
  order_is = positions_are order places (length c.gates) are too

  -- the variables that the block tells are those in their new order
  variables_back : source_variables (map_block order c) ≡ vs
  variables_back =
      let pick : List ℕ → List ℕ → List ℕ = λ variables order. map (λ at. get_or variables at 0) order in
      ap (λ row. first ++ row)
      (by_position recorded ∙ ap₂ pick (map-map (λ (m : MappedGate). m.var) tell c.gates) order_is
      ∙ sym (variables_taken c.gates order))

  pub carried_back : undone (map_block order c) (comment_behind (map_block order c) (unwrap_or c.comment []))
      (mapped_by order c) ≡ c
  carried_back =
      let comment : Option (List ℕ) = comment_behind (map_block order c) (unwrap_or c.comment []) in
      let flags : List Bool = exchanges_recorded recorded in
      let by : List ℕ → List Bool → Circuit → Circuit =
      λ ns es d. record (restored (source_variable ns) places es d) { max_var = c.max_var; comment = comment } in
      ap (λ ns. by ns flags (mapped_by order c)) variables_back
      ∙ ap (λ es. by vs es (converted f order c)) (map-map (λ (m : MappedGate). m.exchanged) tell c.gates)
      ∙ ap (λ (d : Circuit). record d { max_var = c.max_var; comment = comment })
      (converted_is_restored f g order places c refl (names_go_back c order good least) are)
      ∙ ap (λ text. record c { comment = text }) (comment_kept c.comment (map_block order c) refl)

  -- the images of the gates, from their places
  pub images_are : taken (mapped_by order c).gates places ≡ map operands_sorted (map (relabelled_gate f) c.gates)
  images_are = converted_in_places f order places c are
