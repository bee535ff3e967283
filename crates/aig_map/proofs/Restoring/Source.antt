-- The circuit that is undone by a block that fits, and where its mapped image is the circuit it was undone from.
use Rattle.std.proofs.Common.{◌≡◌, ◌+◌, ◌<◌, ◌≤◌, ◌++◌, ◌∙◌, ◌≢◌, ◌⊎◌, if◌then◌else◌, rules, ℕ, zero, suc, List, Option}
use Rattle.std.proofs.Common.{length, length-append, get_or, map, take, drop, refl, sym, ap, subst, arith, Bool, []}
use Rattle.std.proofs.Common.{true, false, None, Some, ap₂, is_some, unwrap_or, ext_get_or, get_or-append-add, take_at}
use Rattle.std.proofs.Common.{drop_at, lt-ltb, le-ltb}
use Rattle.std.specs.List.{AllByRecursion, range_with_len}
use Rattle.std.proofs.lemmas.List.{length-map, get_or-map}
use Rattle.std.proofs.lemmas.List.FromFn.{length-map-range_with_len, get_or-map-range_with_len}
use Rattle.std.proofs.lemmas.Simd.{map-map}
use Rattle.aig_circuit.specs.declared.circuit.Latch.{Latch}
use Rattle.aig_circuit.specs.declared.circuit.Gate.{Gate}
use Rattle.aig_circuit.specs.declared.circuit.Circuit.{Circuit}
use Rattle.aig_circuit.specs.Wellformed.{AreDistinct, IsVariableUpTo, defined_variables, IsWellFormed}
use Rattle.aig_circuit.proofs.Checking.{each, all_weaker, joined}
use Rattle.aig_topo.proofs.Ordering.Ranked.{at, no_gate}
use Rattle.aig_checked.proofs.Numbered.{variables_are}
use Rattle.aig_image.specs.Relabelled.{relabelled, relabelled_gate, relabelled_latch, GateNames, NamesOnly}
use Rattle.aig_image.specs.Renumbering.{in_new_order, renumbered, source_variable}
use Rattle.aig_image.specs.Reordered.{ArePlaces, exchanged_by, taken, reordered, with_operands_exchanged, converted}
use Rattle.aig_image.specs.Reordered.{exchanged_if, has_smaller_first}
use Rattle.aig_image.proofs.Numbering.Places.{by_place, back_again, at_place, by_places}
use Rattle.aig_image.proofs.Relabelling.Permuted.{exchanged_each, exchange_keeps_form, order_keeps_once}
use Rattle.aig_image.proofs.Relabelling.Permuted.{order_keeps_form, defined_in_order, restored_is_converted}
use Rattle.aig_image.proofs.Relabelling.Formed.{form_is_kept}
use Rattle.aig_image.proofs.Relabelling.Relabelled.{names_only, map_nothing, map_where, gate_back}
use Rattle.aig_image.proofs.Imaging.OwnImage.{ordered_at, sorted_already}
use Rattle.aig_map.specs.declared.map_block.MappedGate.{MappedGate}
use Rattle.aig_map.specs.declared.map_block.MapBlock.{MapBlock}
use Rattle.aig_map.specs.Parts.Had.{without_gates}
use Rattle.aig_map.specs.Parts.Tables.{IsFit}
use Rattle.aig_map.specs.Undone.{exchanges_recorded, places_recorded, source_variables, undone, variable_at_place}
use Rattle.aig_map.specs.Undone.{comment_behind}
use Rattle.aig_map.specs.MapBlock.{block_text, mapped_gate, map_block, mapped_by}
use Rattle.aig_map.specs.Parts.Confirmed.{TellsExchanges, TellsComment}
use Rattle.aig_map.proofs.Restoring.AtPositions.{places, order, are, too, by_position, row_in_range, variables_recorded}
use Rattle.aig_map.proofs.Sources.Placed.{gate_had, none_recorded, recorded_at}

-- numbers from 1 on, carried back, are the variables in a row
carried : (vs : List ℕ) → map (source_variable vs) (range_with_len 1 (length vs)) ≡ vs
carried vs =
    let long = length-map-range_with_len (source_variable vs) 1 (length vs) in
    ext_get_or 0 (map (source_variable vs) (range_with_len 1 (length vs))) vs long
    (search (rules, get_or-map-range_with_len, by_place))

-- equal lists in two parts of equal lengths have equal parts
parts : (xs ys s t : List ℕ) → length xs ≡ length ys → xs ++ s ≡ ys ++ t → (xs ≡ ys) × (s ≡ t)
parts xs ys s t long e = (
  sym (take_at xs s (length ys) long) ∙ ap (take (length ys)) e ∙ take_at ys t (length ys) refl,
  sym (drop_at xs s (length ys) long) ∙ ap (drop (length ys)) e ∙ drop_at ys t (length ys) refl,
)

-- the gates at the places, with their operands as they were
gates_had : (gates : List Gate) (recorded : List MappedGate)
    → exchanged_by (exchanges_recorded recorded) (taken gates (places_recorded recorded))
    ≡ map (gate_had gates) recorded
gates_had gates recorded = search (rules, map-map, at, exchanged_each)

-- these gates and what there is beside gates, by the variables of the source, are undone
pub undone_is : (b : MapBlock) (comment : Option (List ℕ)) (x : Circuit)
    → record (relabelled (source_variable (source_variables b)) (without_gates b.max_var comment x)) {
      gates = map (relabelled_gate (source_variable (source_variables b))) (map (gate_had x.gates) b.gates);
    } ≡ undone b comment x
undone_is b comment x = search (rules, gates_had)

module _ (b : MapBlock) (x : Circuit) (comment : Option (List ℕ)) (fit : IsFit b x) where
  abbrev pub vs : List ℕ
  vs = source_variables b

  abbrev pub source : Circuit
  source = undone b comment x

  abbrev row : List ℕ
  row = map (variable_at_place b.gates) (range_with_len 0 (length b.gates))

  abbrev first : List ℕ
  first = b.inputs ++ b.latches

  abbrev pub start : ℕ
  start = 1 + length x.inputs + length x.latches

  row_many : length row ≡ length b.gates
  row_many = length-map-range_with_len (variable_at_place b.gates) 0 (length b.gates)

  first_many : 1 + length first ≡ start
  first_many = omega (arith, length-append b.inputs b.latches, fit.counts.inputs, fit.counts.latches)

  as_many : length vs ≡ x.max_var
  as_many = omega (arith, length-append first row, row_many, first_many, fit.counts.gates, fit.ordered.all)

  numbers_are : map (source_variable vs) (defined_variables x) ≡ vs
  numbers_are = search (rules, variables_are, as_many, carried)

  -- in its order, the source defines the variables that the block tells of
  pub new_is : in_new_order source (order b x fit) ≡ vs
  new_is =
      defined_in_order (source_variable vs) (order b x fit) (places b x fit) (exchanges_recorded b.gates) x refl
      (too b x fit)
      ∙ numbers_are

  first_is : (source.inputs ≡ b.inputs) × (map (λ (l : Latch). l.var) source.latches ≡ b.latches)
  first_is =
      let g : ℕ → ℕ = source_variable vs in
      let latches : List ℕ = map (λ (l : Latch). l.var) source.latches in
      let inputs_many = length-map x.inputs g ∙ sym fit.counts.inputs in
      let latches_many = length-map source.latches (λ (l : Latch). l.var) ∙ length-map x.latches (relabelled_latch g)
      ∙ sym fit.counts.latches in
      let both =
      (parts (source.inputs ++ latches) first _ row
      (omega (arith, length-append source.inputs latches, length-append b.inputs b.latches, inputs_many, latches_many))
      new_is).0 in
      parts source.inputs b.inputs latches b.latches inputs_many both

  inputs_are : source.inputs ≡ b.inputs
  inputs_are = first_is.0

  latches_are : map (λ (l : Latch). l.var) source.latches ≡ b.latches
  latches_are = first_is.1

  -- the number of a gate's place, carried back, is the variable that is recorded of the gate
  variable_there : (i : ℕ) → i < length b.gates
      → source_variable vs (start + (recorded_at b.gates i).place) ≡ (recorded_at b.gates i).var
  variable_there i low =
      let p : ℕ = (recorded_at b.gates i).place in
      let at_i = get_or-map (λ (m : MappedGate). m.place) b.gates i none_recorded 0 low in
      let here = (are b x fit).1 i (omega (arith, low, fit.counts.gates)) in
      let number : start + p ≡ 1 + (length first + p) = omega (arith, first_many) in
      ap (source_variable vs) number ∙ by_place vs (length first + p) ∙ get_or-append-add first row p 0
      ∙ ap (λ xs. get_or xs p 0) (by_position b.gates)
      ∙ ap (λ q. get_or (map (λ at. get_or (variables_recorded b.gates) at 0) (order b x fit)) q 0) (sym at_i)
      ∙ get_or-map (λ at. get_or (variables_recorded b.gates) at 0) (order b x fit) (get_or (places b x fit) i 0) 0 0
      here.0
      ∙ ap (λ k. get_or (variables_recorded b.gates) k 0) here.1
      ∙ get_or-map (λ (m : MappedGate). m.var) b.gates i none_recorded 0 low

  -- the gates of the source, one by one
  pub gates_are : source.gates ≡ map (λ m. relabelled_gate (source_variable vs) (gate_had x.gates m)) b.gates
  gates_are = search (rules, gates_had, map-map, gate_had)

  pub gates_many : length source.gates ≡ length b.gates
  gates_many = ap length gates_are ∙ length-map b.gates (λ m. relabelled_gate (source_variable vs) (gate_had x.gates m))

  -- its variables are in range
  vs_in_range : AllByRecursion (IsVariableUpTo b.max_var) vs
  vs_in_range = search (rules, joined, row_in_range)

  in_range : (v : ℕ) → IsVariableUpTo x.max_var v → IsVariableUpTo b.max_var (source_variable vs v)
  in_range zero range = absurd (omega (arith, range.0))
  in_range (suc k) range = search (rules, by_place, at_place, vs_in_range, as_many)

  module _ (once : AreDistinct (defined_variables source)) where
    vs_once : AreDistinct vs
    vs_once =
        let many : length x.gates ≡ length source.gates = sym (gates_many ∙ fit.counts.gates) in
        subst AreDistinct new_is
        (order_keeps_once (order b x fit) (places b x fit) source
        (subst (ArePlaces (order b x fit) (places b x fit)) many (are b x fit))
        (subst (ArePlaces (places b x fit) (order b x fit)) many (too b x fit)) once)

    -- where no variable is defined twice, numbers that are carried back are found again
    pub back : (v : ℕ) → v ≤ x.max_var → renumbered vs (source_variable vs v) ≡ v
    back v low =
        back_again vs vs_once (λ w a. (each (IsVariableUpTo b.max_var) vs vs_in_range w a).0) v
        (omega (arith, low, as_many))

pub well_formed_again : (b : MapBlock) (x : Circuit) (comment : Option (List ℕ)) → IsWellFormed x → IsFit b x
    → AreDistinct (defined_variables (undone b comment x)) → IsWellFormed (undone b comment x)
well_formed_again b x comment good fit once =
    let us : List ℕ = vs b x comment fit in
    let f : ℕ → ℕ = renumbered us in
    let g : ℕ → ℕ = source_variable us in
    let flags : List Bool = exchanges_recorded b.gates in
    let moved : Circuit = with_operands_exchanged flags (reordered (places b x fit) x) in
    let moved_good = exchange_keeps_form flags (reordered (places b x fit) x)
    (order_keeps_form (places b x fit) (order b x fit) x (too b x fit) (are b x fit) good) in
    let InRange : ℕ → Type 0 = IsVariableUpTo x.max_var in
    let kept : AllByRecursion (λ v. f (g v) ≡ v) (defined_variables moved) =
    all_weaker InRange (λ v. f (g v) ≡ v) (λ v range. back b x comment fit once v range.1) (defined_variables moved)
    moved_good.in_range in
    form_is_kept g f b.max_var comment moved moved_good refl
    (names_only (λ v. f (g v) ≡ v) moved refl kept moved_good) fit.bounds.max_var
    (search (rules, all_weaker, in_range))

-- Where the places that a block tells are the least ready order of the undone circuit, its mapped image is the circuit
-- that it was undone from.

-- the comment after a block tells whether there was one
was_there : (has : Bool) (rest : List ℕ) → is_some (if has then Some rest else None) ≡ has
was_there true rest = refl
was_there false rest = refl

-- and what it was
was_this : (has : Bool) (rest : List ℕ) → (has ≡ true) ⊎ (rest ≡ [])
    → unwrap_or (if has then Some rest else None) [] ≡ rest
was_this true rest recorded = refl
was_this false rest recorded = search rules

-- of sorted operands, two different ones are exchanged where the smaller one is first
exchanged_back : (e : Bool) (g : Gate) → g.right ≤ g.left → (e ≡ true → g.left ≢ g.right)
    → has_smaller_first (exchanged_if e g) ≡ e
exchanged_back true g first_gate two = search (rules, lt-ltb)
exchanged_back false g first_gate two = le-ltb g.left g.right first_gate

abbrev recorded : ℕ → ℕ → Bool → MappedGate
recorded var place is = record { var = var; place = place; exchanged = is }

module _ (b : MapBlock) (x : Circuit) (rest : List ℕ) (fit : IsFit b x) (good : IsWellFormed x)
    (once : AreDistinct (defined_variables (undone b (comment_behind b rest) x))) where
  abbrev comment : Option (List ℕ)
  comment = comment_behind b rest

  abbrev from : Circuit
  from = source b x comment fit

  abbrev us : List ℕ
  us = vs b x comment fit

  abbrev f : ℕ → ℕ
  f = renumbered us

  abbrev g : ℕ → ℕ
  g = source_variable us

  abbrev first_gate : ℕ
  first_gate = 1 + length from.inputs + length from.latches

  first_gate_is : first_gate ≡ start b x comment fit
  first_gate_is = omega (arith, length-map x.inputs g, length-map x.latches (relabelled_latch g))

  pub names : NamesOnly (λ v. f (g v) ≡ v) x
  names =
      names_only (λ v. f (g v) ≡ v) x refl
      (all_weaker (IsVariableUpTo x.max_var) (λ v. f (g v) ≡ v) (λ v range. back b x comment fit once v range.1)
      (defined_variables x) good.in_range) good

  -- a gate of the image at a place, and the gate that it is carried back to
  abbrev had : MappedGate → Gate
  had m = gate_had x.gates m

  exchanged_names : (P : ℕ → Type 0) (e : Bool) (h : Gate) → GateNames P h → GateNames P (exchanged_if e h)
  exchanged_names P true h named = (named.0, named.2, named.1)
  exchanged_names P false h named = named

  had_again : (m : MappedGate) → m.place < length x.gates → relabelled_gate f (relabelled_gate g (had m)) ≡ had m
  had_again m low =
      gate_back f g (had m)
      (exchanged_names (λ v. f (g v) ≡ v) m.exchanged (at x.gates m.place)
      (at_place (GateNames (λ v. f (g v) ≡ v)) no_gate x.gates names.gates m.place low))

  -- the block tells of the gate what it recorded
  recorded_again : (m : MappedGate) → m.place < length x.gates → g (start b x comment fit + m.place) ≡ m.var
      → (m.exchanged ≡ true → (at x.gates m.place).left ≢ (at x.gates m.place).right)
      → mapped_gate f first_gate (relabelled_gate g (had m)) ≡ m
  recorded_again m low variable two = search (rules, ordered_at, start, had_again, at, first_gate_is, exchanged_back)

  gates_again : TellsExchanges x.gates b.gates → map (mapped_gate f first_gate) from.gates ≡ b.gates
  gates_again exchanges =
      let made : MappedGate → Gate = λ m. relabelled_gate g (had m) in
      let Again : MappedGate → Type 0 = λ m. mapped_gate f first_gate (made m) ≡ m in
      let Differs : MappedGate → Type 0 =
      λ m. m.exchanged ≡ true → (at x.gates m.place).left ≢ (at x.gates m.place).right in
      let all = by_places Again none_recorded b.gates (λ i low.
      let m : MappedGate = recorded_at b.gates i in
      search (rules, at_place, none_recorded, recorded_again, variable_there)) in
      ap (map (mapped_gate f first_gate)) (gates_are b x comment fit)
      ∙ map-map (mapped_gate f first_gate) made b.gates
      ∙ map_where Again (λ m. mapped_gate f first_gate (made m)) (λ m. m) (λ m e. e) b.gates all
      ∙ map_nothing (λ m. m) (λ m. refl) b.gates

  -- the circuit has the block
  block_again : TellsExchanges x.gates b.gates → map_block (order b x fit) from ≡ b
  block_again exchanges =
      let inputs = inputs_are b x comment fit in
      let latches = latches_are b x comment fit in
      let gates =
      ap (λ ns. map (mapped_gate (renumbered ns) first_gate) from.gates) (new_is b x comment fit)
      ∙ gates_again exchanges in
      search (rules, was_there)

  -- and the image
  pub image_again : x.comment ≡ Some (block_text b ++ rest) → TellsExchanges x.gates b.gates
      → TellsComment b.has_comment rest → mapped_by (order b x fit) from ≡ x
  image_again begins exchanges tells =
      let text = ap₂ (λ (block : MapBlock) (behind : List ℕ). Some (block_text block ++ behind)) (block_again exchanges)
      (was_this b.has_comment rest tells)
      ∙ sym begins in
      let by : List ℕ → Circuit = λ ns. converted (renumbered ns) (order b x fit) from in
      let circuit = ap (λ (d : Circuit). record d { max_var = b.max_var; comment = comment })
      (restored_is_converted f g (order b x fit) (places b x fit) (exchanges_recorded b.gates) x refl names
      (too b x fit)
      (sorted_already (start b x comment fit) x.gates fit.ordered.gates)) in
      let new : List ℕ → Circuit = λ ns.
      record (by ns) { max_var = length ns; comment = (mapped_by (order b x fit) from).comment } in
      ap new (new_is b x comment fit)
      ∙ ap (λ (d : Circuit). record d { max_var = length us; comment = (mapped_by (order b x fit) from).comment })
      circuit
      ∙ ap₂ (λ count text. record x { max_var = count; comment = text }) (as_many b x comment fit) text
