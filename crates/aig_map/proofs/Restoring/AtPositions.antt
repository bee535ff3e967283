-- The gates of the source, put at their positions one by one and exchanged there.
use Rattle.std.proofs.Common.{◌≡◌, ◌<◌, ◌∙◌, ◌≢◌, ◌∷◌, ◌+◌, rules, ℕ, List, Bool, true, false, length, map, refl, sym}
use Rattle.std.proofs.Common.{ap, subst, arith, [], eqb, get_or, ⊎_elim, set, get_or-set_same, get_or-set_other}
use Rattle.std.specs.List.{AllByRecursion, position_or_len, range_with_len}
use Rattle.std.proofs.lemmas.List.{length-map, get_or_default, get_or-map}
use Rattle.std.proofs.lemmas.Simd.{map-map}
use Rattle.std.proofs.lemmas.Bool.Decides.{eqb_tells}
use Rattle.std.proofs.lemmas.Bool.{cases_lt}
use Rattle.std.proofs.lemmas.Grind.{same_number_lists}
use Rattle.std.proofs.lemmas.List.FromFn.{length-map-range_with_len}
use Rattle.aig_circuit.specs.declared.circuit.Gate.{Gate}
use Rattle.aig_circuit.specs.declared.circuit.Circuit.{Circuit}
use Rattle.aig_circuit.specs.Wellformed.{AreDistinct, IsVariableUpTo}
use Rattle.aig_topo.proofs.Ordering.Ranked.{at}
use Rattle.aig_image.specs.Relabelled.{relabelled_gate}
use Rattle.aig_image.specs.Renumbering.{source_variable}
use Rattle.aig_image.specs.Reordered.{ArePlaces, exchanged_by, exchanged_if, taken, positions_of}
use Rattle.aig_image.proofs.Relabelling.Permuted.{exchanged_each}
use Rattle.aig_image.proofs.Relabelling.Relabelled.{map_each, taken_back, taken_mapped}
use Rattle.aig_image.proofs.Numbering.Places.{places_apart, have_positions, by_places, at_place, further, same_place}
use Rattle.aig_image.proofs.Relabelling.Formed.{all_through}
use Rattle.aig_map.specs.declared.map_block.MappedGate.{MappedGate}
use Rattle.aig_map.specs.declared.map_block.MapBlock.{MapBlock}
use Rattle.aig_map.specs.Parts.Had.{gates_there}
use Rattle.aig_map.specs.Parts.Tables.{ArePut, IsFit}
use Rattle.aig_map.specs.Parts.Turns.{positions}
use Rattle.aig_map.specs.Undone.{exchanges_recorded, places_recorded, source_variables, variable_at_place}
use Rattle.aig_map.proofs.Sources.Placed.{gate_had, places_there, none_recorded, recorded_at}

abbrev pub variables_recorded : List MappedGate → List ℕ
variables_recorded gates = map (λ (g : MappedGate). g.var) gates

abbrev pub position_at : List MappedGate → ℕ → ℕ
position_at gates place = position_or_len (λ p. eqb p place) (places_recorded gates)

-- the variable at a place is that of the gate at this place's position
variable_by_position : (gates : List MappedGate) (p : ℕ)
    → variable_at_place gates p ≡ get_or (variables_recorded gates) (position_at gates p) 0
variable_by_position [] p = refl
variable_by_position (g ∷ gates) p =
    ⊎_elim (λ (t : (eqb g.place p ≡ true) × (g.place ≡ p)). rw t.0 refl)
    (λ (f : (eqb g.place p ≡ false) × (g.place ≢ p)).
    rw f.0 (variable_by_position gates p ∙ sym (further g.var (position_at gates p) (variables_recorded gates))))
    (eqb_tells g.place p)

-- so by their places the variables of gates are theirs in the order of the positions
pub by_position : (gates : List MappedGate) → map (variable_at_place gates) (range_with_len 0 (length gates))
    ≡ map (λ at. get_or (variables_recorded gates) at 0) (positions_of (places_recorded gates))
by_position gates = search (rules, map_each, variable_by_position, length-map, map-map)

-- distinct places of so many gates are each that of one of them
place_each : (gates : List MappedGate) (n : ℕ) → AreDistinct (places_recorded gates)
    → AllByRecursion (λ (g : MappedGate). g.place < n) gates → length gates ≡ n
    → ArePlaces (positions_of (places_recorded gates)) (places_recorded gates) n
    × ArePlaces (places_recorded gates) (positions_of (places_recorded gates)) n
place_each gates n once below many =
    have_positions n (places_recorded gates) once
    (search (rules, all_through))
    (length-map gates (λ (g : MappedGate). g.place) ∙ many)

module _ (b : MapBlock) (x : Circuit) (fit : IsFit b x) where
  abbrev pub places : List ℕ
  places = places_recorded b.gates

  abbrev pub order : List ℕ
  order = positions_of places

  they_are_there : AllByRecursion (λ (g : MappedGate). g.place < length x.gates) b.gates
  they_are_there =
      places_there b.max_var (length b.gates) b.gates fit.bounds.gates (length x.gates) fit.counts.gates

  both : ArePlaces order places (length x.gates) × ArePlaces places order (length x.gates)
  both = place_each b.gates (length x.gates) fit.once they_are_there fit.counts.gates

  pub are : ArePlaces order places (length x.gates)
  are = both.0

  pub too : ArePlaces places order (length x.gates)
  too = both.1

  -- the variables by place are in range too
  pub row_in_range : AllByRecursion (IsVariableUpTo b.max_var)
      (map (variable_at_place b.gates) (range_with_len 0 (length b.gates)))
  row_in_range =
      let InRange : ℕ → Type 0 = IsVariableUpTo b.max_var in
      let all : List ℕ = variables_recorded b.gates in
      let recorded : AllByRecursion InRange all =
      all_through (λ (g : MappedGate). InRange g.var × (g.place < length b.gates)) InRange (λ (g : MappedGate). g.var)
      (λ g e. e.0) b.gates fit.bounds.gates in
      let there = by_places (λ i. i < length all) 0 order (λ p low.
      omega (
        arith,
        (too.1 p (omega (arith, low, too.0))).0,
        length-map b.gates (λ (g : MappedGate). g.var),
        length-map b.gates (λ (g : MappedGate). g.place),
      )) in
      subst (AllByRecursion InRange) (sym (by_position b.gates))
      (all_through (λ i. i < length all) InRange (λ i. get_or all i 0)
      (λ i low. at_place InRange 0 all recorded i low) order there)

  -- there are as many positions as gates, each is below their count, and no two are the same
  pub positions_fit : (length (positions b.gates) ≡ length x.gates)
      × AllByRecursion (λ p. p < length x.gates) (positions b.gates) × AreDistinct (positions b.gates)
  positions_fit = (
    too.0,
    by_places (λ p. p < length x.gates) 0 order (λ i low.
        let here = too.1 i (omega (arith, low, too.0)) in omega (arith, here.0, are.0)),
    places_apart places order (length x.gates) too,
  )

  pub flags_fit : length (exchanges_recorded b.gates) ≡ length x.gates
  flags_fit = length-map b.gates (λ (g : MappedGate). g.exchanged) ∙ fit.counts.gates

  abbrev f : ℕ → ℕ
  f = source_variable (source_variables b)

  -- where the gates were put at their positions, they stand as the places are recorded
  pub put_as_recorded : (vs positions_are : List ℕ) (gates found : List Gate) → vs ≡ source_variables b
      → positions_are ≡ positions b.gates → gates ≡ x.gates → ArePut (source_variable vs) gates positions_are found
      → found ≡ gates_there (source_variable (source_variables b)) x.gates b.gates
  put_as_recorded vs positions_are gates found same_variables same_positions same_gates put =
      let long : length found ≡ length x.gates = put.many ∙ ap length same_gates in
      let stand : taken found order ≡ map (relabelled_gate f) x.gates = search rules in
      sym (taken_back found order places (subst (ArePlaces order places) (sym long) are))
      ∙ ap (λ (gs : List Gate). taken gs places) stand
      ∙ sym (taken_mapped (relabelled_gate f) refl x.gates places)

  exchanged_too : (e : Bool) (g : Gate) → exchanged_if e (relabelled_gate f g) ≡ relabelled_gate f (exchanged_if e g)
  exchanged_too true g = refl
  exchanged_too false g = refl

  -- and with operands exchanged by the flags they are the gates of the source
  pub exchanged_as_recorded : exchanged_by (exchanges_recorded b.gates)
      (gates_there (source_variable (source_variables b)) x.gates b.gates)
      ≡ map (relabelled_gate (source_variable (source_variables b))) (map (gate_had x.gates) b.gates)
  exchanged_as_recorded =
      simp map-map
      (exchanged_each (λ (m : MappedGate). m.exchanged) (λ m. relabelled_gate f (at x.gates m.place)) b.gates
      ∙ map_each (λ m. exchanged_if m.exchanged (relabelled_gate f (at x.gates m.place)))
      (λ m. relabelled_gate f (gate_had x.gates m)) (λ m. exchanged_too m.exchanged (at x.gates m.place)) b.gates)

-- Positions that are put at their gates' places one by one.
places_many : (gates : List MappedGate) → length (places_recorded gates) ≡ length gates
places_many gates = length-map gates (λ (g : MappedGate). g.place)

pub positions_many : (gates : List MappedGate) → length (positions gates) ≡ length gates
positions_many gates =
    length-map-range_with_len (position_at gates) 0 (length (places_recorded gates)) ∙ places_many gates

module _ (gates : List MappedGate) (once : AreDistinct (places_recorded gates))
    (below : AllByRecursion (λ (g : MappedGate). g.place < length gates) gates) where
  abbrev place_of : ℕ → ℕ
  place_of i = (recorded_at gates i).place

  -- the first gates have put their positions
  abbrev pub FirstArePut : ℕ → List ℕ → Type 0
  FirstArePut k found = (i : ℕ) → i < k → get_or found (place_of i) 0 ≡ i

  place_at : (i : ℕ) → i < length gates → get_or (places_recorded gates) i 0 ≡ place_of i
  place_at i low = get_or-map (λ (g : MappedGate). g.place) gates i none_recorded 0 low

  -- no two gates have one place
  differ : (k i : ℕ) → k < i → i < length gates → place_of k ≢ place_of i
  differ k i before low e =
      let also : k < length gates = omega (arith, before, low) in
      let same = same_place (places_recorded gates) once k i (omega (arith, also, places_many gates))
      (omega (arith, low, places_many gates))
      (place_at k also ∙ e ∙ sym (place_at i low)) in
      omega (arith, before, same)

  pub one_more_put : (k : ℕ) (found : List ℕ) (g : MappedGate)
      → length found ≡ length gates → k < length gates → g ≡ get_or gates k g → FirstArePut k found
      → FirstArePut (k + 1) (set found g.place k)
  one_more_put k found g many there is put i low =
      let here = ap (λ (m : MappedGate). m.place) (is ∙ get_or_default gates k g none_recorded there) in
      let now : set found g.place k ≡ set found (place_of k) k = ap (λ p. set found p k) here in
      let fits = at_place (λ (m : MappedGate). m.place < length gates) none_recorded gates below k there in
      ⊎_elim (search (rules, get_or-set_other, differ))
      (search (rules, get_or-set_same))
      (cases_lt i k)

  -- where all did, each place has its position
  pub all_put : (found : List ℕ) → length found ≡ length gates → FirstArePut (length gates) found
      → found ≡ positions gates
  all_put found many put =
      same_number_lists found (positions gates) (many ∙ sym (positions_many gates))
      (search (rules, place_each, places_many, place_at))
