-- Where the gates of an image are taken in turn, the places that a block tells are the least ready order of its
-- source, and the other way round.
use Rattle.std.proofs.Common.{◌≡◌, ◌+◌, ◌<◌, ◌≤◌, ◌∷◌, ◌++◌, ◌*◌, ◌∙◌, ◌⊎◌, ◌↔◌, rules, ℕ, zero, suc, List, [], map}
use Rattle.std.proofs.Common.{refl, sym, subst, inr, ⊎_elim, arith, length, length-append, get_or, Bool, true, false}
use Rattle.std.proofs.Common.{Option, ap, inl, IsTrue}
use Rattle.std.specs.List.{range_with_len}
use Rattle.std.proofs.lemmas.Bool.{cases_lt}
use Rattle.std.proofs.lemmas.List.{get_or_append_left, get_or_default, length-map, get_or-map}
use Rattle.std.proofs.Math.Seq.{get_or-append_seam}
use Rattle.std.proofs.lemmas.List.FromFn.{get_or-map-range_with_len}
use Rattle.aig_circuit.specs.Wellformed.{IsAmong, AreDistinct, defined_variables, operands}
use Rattle.aig_circuit.specs.declared.circuit.Gate.{Gate}
use Rattle.aig_circuit.specs.declared.circuit.Latch.{Latch}
use Rattle.aig_circuit.specs.declared.circuit.Circuit.{Circuit}
use Rattle.aig_circuit.specs.Literal.{variable_of}
use Rattle.aig_circuit.proofs.Checking.{each}
use Rattle.aig_topo.specs.Order.{IsReady, TakesLeast, IsFull, IsLeastReadyOrder, gate_operands}
use Rattle.aig_topo.proofs.Ordering.Ranked.{all_served, no_gate, at, variables, distinct_back, over_one, needed_by}
use Rattle.aig_image.specs.Relabelled.{relabelled_gate}
use Rattle.aig_image.specs.Renumbering.{renumbered, source_variable}
use Rattle.aig_image.specs.Reordered.{exchanged_if}
use Rattle.aig_image.proofs.Imaging.OwnImage.{ordered_at}
use Rattle.aig_image.proofs.Relabelling.Formed.{variable_there as carried_variable}
use Rattle.aig_map.specs.Parts.Turns.{ready_from, ready_at, AreLinks, IsClear, positions, AreTakenInTurn}
use Rattle.aig_map.specs.declared.map_block.MappedGate.{MappedGate}
use Rattle.aig_map.specs.declared.map_block.MapBlock.{MapBlock}
use Rattle.aig_map.specs.Parts.Tables.{IsFit}
use Rattle.aig_map.specs.Undone.{undone}
use Rattle.aig_map.proofs.Restoring.AtPositions.{places, order, are, too, position_at}
use Rattle.aig_map.proofs.Restoring.Source.{vs, source, start, gates_are, gates_many, back}
use Rattle.aig_map.proofs.Sources.Placed.{gate_had, none_recorded, recorded_at}

-- what a function gives at a number is among what it gives at numbers in a row
among_given : (f : ℕ → ℕ) (k a n : ℕ) → a ≤ k → k < a + n → IsAmong (f k) (map f (range_with_len a n))
among_given f k a zero low high = absurd (omega (arith, low, high))
among_given f k a (suc n) low high =
    ⊎_elim (λ (above : a < k). inr (among_given f k (a + 1) n (omega (arith, above)) (omega (arith, high))))
    (search rules) (cases_lt a k)

-- a gate may have its place from ready on, which is just after one that it needs, or 0
module _ (count : ℕ) (needs : ℕ → List ℕ) (place at ready : ℕ → ℕ)
    (by_place : (p : ℕ) → p < count → (at p < count) × (place (at p) ≡ p))
    (by_gate : (g : ℕ) → g < count → (place g < count) × (at (place g) ≡ g))
    (enough : (q h : ℕ) → q < count → IsAmong h (needs (at q)) → (h < count) × (place h < ready q))
    (last : (q r : ℕ) → q < count → ready q ≡ suc r → IsAmong (at r) (needs (at q)))
    (by_then : (q : ℕ) → q < count → ready q ≤ q) where
  -- exactly the gates of places below p were taken
  abbrev AreBefore : ℕ → List ℕ → Type 0
  AreBefore p seen = ((h : ℕ) → h < count → place h < p → IsAmong h seen) × ((h : ℕ) → IsAmong h seen → place h < p)

  -- at each place, no other that may have it comes first
  abbrev pub IsLeastAtEach : Type 0
  IsLeastAtEach = (p q : ℕ) → q < count → p ≤ q → ready q ≤ p → at p ≤ at q

  none_before : AreBefore 0 []
  none_before = (λ h there low. absurd (omega (arith, low)), λ h a. absurd a)

  one_more : (p : ℕ) (seen : List ℕ) → p < count → AreBefore p seen → AreBefore (p + 1) (at p ∷ seen)
  one_more p seen there before = search (rules, cases_lt)

  -- a gate at a later place is ready once its place may be this one
  ready_there : (p q : ℕ) (seen : List ℕ) → q < count → p ≤ q → ready q ≤ p → AreBefore p seen
      → IsReady count needs seen (at q)
  ready_there p q seen there behind free before = search (rules, all_served)

  -- and a gate that is ready has a later place, and may have this one
  place_there : (p q : ℕ) (seen : List ℕ) → q < count → AreBefore p seen → IsReady count needs seen (at q)
      → (p ≤ q) × (ready q ≤ p)
  place_there p q seen there before is = (
    search (rules, cases_lt),
    from_last (ready q) refl,
  )
    where
      from_last : (r : ℕ) → ready q ≡ r → ready q ≤ p
      from_last zero e = omega (arith, e)
      from_last (suc r) e =
          let taken = each (λ h. IsAmong h seen) (needs (at q)) is.served (at r) (last q r there e) in
          let low : place (at r) < p = before.1 (at r) taken in
          let then : ready q ≤ q = by_then q there in
          let same : place (at r) ≡ r = (by_place r (omega (arith, then, e, there))).1 in
          omega (arith, low, same, e)

  takes_from : IsLeastAtEach → (n p : ℕ) (seen : List ℕ) → p + n ≡ count → AreBefore p seen
      → TakesLeast count needs seen (map at (range_with_len p n))
  takes_from least zero p seen sum before = tt
  takes_from least (suc n) p seen sum before =
      let there : p < count = omega (arith, sum) in (
        ready_there p p seen there (omega arith) (by_then p there) before,
        λ h is.
            let g = by_gate h is.there in
            let later =
            place_there p (place h) seen g.0 before (subst (λ i. IsReady count needs seen i) (sym g.1) is) in
            subst (λ i. at p ≤ i) g.1 (least p (place h) g.0 later.0 later.1),
        takes_from least n (p + 1) (at p ∷ seen) (omega (arith, sum)) (one_more p seen there before),
      )

  takes_least : IsLeastAtEach → TakesLeast count needs [] (map at (range_with_len 0 count))
  takes_least least = takes_from least count 0 [] (omega arith) none_before

  takes_all : IsFull count needs (map at (range_with_len 0 count))
  takes_all g there served =
      let here = by_gate g there in
      search (rules, among_given)

  least_from : (n k : ℕ) (seen : List ℕ) → k + n ≡ count → AreBefore k seen
      → TakesLeast count needs seen (map at (range_with_len k n))
      → (p q : ℕ) → k ≤ p → q < count → p ≤ q → ready q ≤ p → at p ≤ at q
  least_from zero k seen sum before takes p q from there behind free = absurd (omega (arith, sum, from, there, behind))
  least_from (suc n) k seen sum before takes p q from there behind free =
      ⊎_elim (λ (l : k < p).
      least_from n (k + 1) (at k ∷ seen) (omega (arith, sum)) (one_more k seen (omega (arith, sum)) before) takes.2
      p q (omega (arith, l)) there behind free)
      (λ (l : p ≤ k).
      let same : k ≡ p = omega (arith, l, from) in
      subst (λ i. at i ≤ at q) same
      (takes.1 (at q) (ready_there k q seen there (omega (arith, same, behind)) (omega (arith, same, free)) before)))
      (cases_lt k p)

  -- the other way round
  least_at_each : TakesLeast count needs [] (map at (range_with_len 0 count)) → IsLeastAtEach
  least_at_each takes p q there behind free =
      least_from count 0 [] (omega arith) none_before takes p q (omega arith) there behind free

-- the next place gets a link
pub one_more_link : (places links : List ℕ) (at : ℕ)
    → AreLinks places links → at ≤ length links → IsClear places at (length links) → AreLinks places (links ++ at ∷ [])
one_more_link places links at are back clear j low =
    ⊎_elim (search (rules, get_or_append_left))
    (λ (l : length links ≤ j).
    let same : length links ≡ j = omega (arith, l, low, length-append links (at ∷ [])) in
    search (rules, get_or-append_seam))
    (cases_lt j (length links))

-- what is clear up to the next place, by what a link recorded
pub one_more_clear : (first : ℕ) (gates : List Gate) (places : List ℕ) (k at ready : ℕ) (g : Gate)
    → k < length gates → g ≡ get_or gates k g → ready ≡ ready_from first g → at ≤ ready → IsClear places at k
    → ((q : ℕ) → q < k → IsClear places (ready_at first gates q) q)
    → (q : ℕ) → q < k + 1 → IsClear places (ready_at first gates q) q
one_more_clear first gates places k at ready g there is ready_is before clear all q low =
    search (rules, no_gate, get_or_default, cases_lt)

-- The gates of the source, by their positions and their places. Where the gates of an image are taken in turn, the
-- places that a block tells are the least ready order of its source, and the other way round.
abbrev Uses : ℕ → Gate → Type 0
Uses variable h = IsAmong variable (map variable_of (operands h))

-- a literal over the variable of a gate's operand, as it was carried back
module _ (g : ℕ → ℕ) (h : Gate) (v : ℕ) where
  from_either : (e : Bool) → Uses v (relabelled_gate g (exchanged_if e h))
      → (v ≡ g (variable_of h.left)) ⊎ (v ≡ g (variable_of h.right))
  from_either true a = search (rules, carried_variable)
  from_either false a = search (rules, carried_variable)

  by_left : (e : Bool) → v ≡ g (variable_of h.left) → Uses v (relabelled_gate g (exchanged_if e h))
  by_left true e = inr (inl (e ∙ sym (carried_variable g h.left)))
  by_left false e = inl (e ∙ sym (carried_variable g h.left))

module _ (b : MapBlock) (x : Circuit) (comment : Option (List ℕ)) (fit : IsFit b x)
    (once : AreDistinct (defined_variables (undone b comment x))) where
  abbrev g : ℕ → ℕ
  g = source_variable (vs b x comment fit)

  abbrev gates : List Gate
  gates = (source b x comment fit).gates

  abbrev first : ℕ
  first = start b x comment fit

  -- as many as there are places
  abbrev count : ℕ
  count = length (places b x fit)

  abbrev recorded : ℕ → MappedGate
  recorded i = recorded_at b.gates i

  abbrev position : ℕ → ℕ
  position = position_at b.gates

  recorded_many : count ≡ length b.gates
  recorded_many = length-map b.gates (λ (m : MappedGate). m.place)

  many : length gates ≡ count
  many = gates_many b x comment fit ∙ sym recorded_many

  image_many : count ≡ length x.gates
  image_many = recorded_many ∙ fit.counts.gates

  place_at : (i : ℕ) → i < count → get_or (places b x fit) i 0 ≡ (recorded i).place
  place_at i low = get_or-map (λ (m : MappedGate). m.place) b.gates i none_recorded 0
      (omega (arith, low, recorded_many))

  position_there : (p : ℕ) → p < count → get_or (order b x fit) p 0 ≡ position p
  position_there p low = get_or-map-range_with_len position 0 count p p 0 low (omega arith)

  at_gate : (i : ℕ) → i < count → ((recorded i).place < count) × (position (recorded i).place ≡ i)
  at_gate i low =
      let here = (are b x fit).1 i (omega (arith, low, image_many)) in
      search (rules, place_at, too, image_many, position_there, order)

  at_place : (p : ℕ) → p < count → (position p < count) × ((recorded (position p)).place ≡ p)
  at_place p low =
      let here = (too b x fit).1 p (omega (arith, low, image_many)) in
      search (rules, position_there, place_at, places)

  -- a gate of the source is the one at its place, carried back
  gate_at : (i : ℕ) → i < count → at gates i ≡ relabelled_gate g (gate_had x.gates (recorded i))
  gate_at i low =
      ap (λ (gs : List Gate). at gs i) (gates_are b x comment fit)
      ∙ get_or-map (λ m. relabelled_gate g (gate_had x.gates m)) b.gates i none_recorded no_gate
      (omega (arith, low, recorded_many))

  gates_once : AreDistinct (variables gates)
  gates_once =
      let from : Circuit = source b x comment fit in
      distinct_back (from.inputs ++ map (λ (l : Latch). l.var) from.latches) (variables gates) once

  image_at : (q : ℕ) → q < count → ((at x.gates q).var ≡ first + q)
      × ((at x.gates q).left < 2 * (at x.gates q).var) × ((at x.gates q).right ≤ (at x.gates q).left)
  image_at q low = ordered_at first x.gates fit.ordered.gates q (omega (arith, low, image_many))

  variable_at : (i : ℕ) → i < count → (at gates i).var ≡ g (first + (recorded i).place)
  variable_at i low = ap (λ (h : Gate). h.var) (gate_at i low) ∙ ap g (image_at (recorded i).place (at_gate i low).0).0

  -- a number that is carried back to a gate's variable is that of the gate's place
  place_by_number : (i v : ℕ) → i < count → v < first + count → (at gates i).var ≡ g v
      → v ≡ first + (recorded i).place
  place_by_number i v low fits is =
      let there = (at_gate i low).0 in
      sym (back b x comment fit once v (omega (arith, fits, fit.ordered.all, image_many)))
      ∙ ap (renumbered (vs b x comment fit)) (sym is ∙ variable_at i low)
      ∙ back b x comment fit once (first + (recorded i).place) (omega (arith, there, fit.ordered.all, image_many))

  abbrev needs : ℕ → List ℕ
  needs = gate_operands gates

  abbrev place : ℕ → ℕ
  place i = (recorded i).place

  abbrev ready : ℕ → ℕ
  ready = ready_at first x.gates

  by_then : (q : ℕ) → q < count → ready q ≤ q
  by_then q low = let h = image_at q low in omega (arith, h.0, h.1)

  abbrev exchanged : ℕ → Bool
  exchanged q = (recorded (position q)).exchanged

  -- the source's gate of a place
  of_place : (q : ℕ) → q < count
      → at gates (position q) ≡ relabelled_gate g (exchanged_if (exchanged q) (at x.gates q))
  of_place q low = search (rules, at_place, gate_at, at)

  -- a gate that a gate needs has a place before its ready one
  enough : (q h : ℕ) → q < count → IsAmong h (needs (position q)) → (h < count) × (place h < ready q)
  enough q h low used =
      let over = over_one gates (position q) h (omega (arith, (at_place q low).0, many)) used in
      let there : h < count = omega (arith, over.0, many) in
      let v : ℕ = (at gates h).var in
      let uses = subst (Uses v) (of_place q low) over.1 in
      let image = image_at q low in
      let left : ℕ = variable_of (at x.gates q).left in
      let right : ℕ = variable_of (at x.gates q).right in search (rules, place_by_number, from_either, at)

  -- and it needs the gate just before its ready place
  last : (q r : ℕ) → q < count → ready q ≡ suc r → IsAmong (position r) (needs (position q))
  last q r low is =
      let then : ready q ≤ q = by_then q low in
      let r_low : r < count = omega (arith, then, is, low) in
      let r_there = at_place r r_low in
      let v : ℕ = (at gates (position r)).var in
      let number : first + place (position r) ≡ variable_of (at x.gates q).left = omega (arith, is, r_there.1) in
      search (rules, at, variable_at, needed_by, gates_once, at_place, many, of_place, by_left)

  in_turn : AreTakenInTurn first x.gates (positions b.gates)
      → IsLeastReadyOrder (undone b comment x) (positions b.gates)
  in_turn turn = record {
    in_turn = subst (λ n. TakesLeast n needs [] (positions b.gates)) (sym many)
        (takes_least count needs place position ready
        at_place at_gate enough last by_then
        (λ p q low behind free.
        let less = turn p q (omega (arith, low, image_many)) behind free in
        omega (arith, less, position_there p (omega (arith, behind, low)), position_there q low)));
    full = subst (λ n. IsFull n needs (positions b.gates)) (sym many)
        (takes_all count needs place position ready
        at_place at_gate enough last by_then);
  }

  in_turn_where_least : IsLeastReadyOrder (undone b comment x) (positions b.gates)
      → AreTakenInTurn first x.gates (positions b.gates)
  in_turn_where_least order p q low behind free =
      let there : q < count = omega (arith, low, image_many) in
      let takes = subst (λ n. TakesLeast n needs [] (positions b.gates)) many order.in_turn in
      let less = least_at_each count needs place position ready
      at_place at_gate enough last by_then takes p q there behind free in
      omega (arith, less, position_there p (omega (arith, behind, there)), position_there q there)

  -- so a test for the one tells the other
  pub tells_order : (n : ℕ) (gates : List Gate) (places : List ℕ) (recorded : Bool)
      → n ≡ first → gates ≡ x.gates → places ≡ positions b.gates → IsTrue recorded ↔ AreTakenInTurn n gates places
      → IsTrue recorded ↔ IsLeastReadyOrder (undone b comment x) (positions b.gates)
  tells_order n gates places recorded n_is gates_are places_are is = search (rules, in_turn, in_turn_where_least)
