-- The new numbers of the variables that a circuit defines: those that are noted, and those that a map records.
use Rattle.std.proofs.Common.{◌≡◌, ◌+◌, ◌++◌, ◌∷◌, ◌∙◌, ◌<◌, ◌≤◌, ℕ, List, [], ap, ap₂, arith, length, map, refl, rules}
use Rattle.std.proofs.Common.{append-nil, length-append, subst, sym, ⊎_elim}
use Rattle.std.specs.List.{AllByRecursion, range_with_len}
use Rattle.std.proofs.lemmas.Bool.{cases_lt}
use Rattle.std.proofs.lemmas.Grind.{same_number_lists}
use Rattle.std.proofs.lemmas.List.{get_or-map, length-map, map-append}
use Rattle.std.proofs.lemmas.List.FromFn.{length-range_with_len}
use Rattle.std.proofs.lemmas.Simd.{map-map, pick_l_whole}
use Rattle.std.proofs.Math.ListN.{get_or-append}
use Rattle.aig_circuit.specs.declared.circuit.Circuit.{Circuit}
use Rattle.aig_circuit.specs.declared.circuit.Gate.{Gate}
use Rattle.aig_circuit.specs.declared.circuit.Latch.{Latch}
use Rattle.aig_circuit.specs.Wellformed.{IsAmong, IsVariableUpTo, IsWellFormed, defined_variables, largest_index}
use Rattle.aig_circuit.proofs.Checking.{all_weaker, definitions_fit, each, front}
use Rattle.aig_meaning.proofs.Related.{distinct_apart, map_same}
use Rattle.aig_topo.specs.Order.{IsLeastReadyOrder}
use Rattle.aig_topo.proofs.Ordering.Cyclic.{among_last}
use Rattle.aig_topo.proofs.Ordering.LeastReady.{one_least_ready_order}
use Rattle.aig_topo.proofs.Ordering.Ranked.{all_of, no_gate, variables}
use Rattle.aig_image.specs.declared.image.Renumbering.{Renumbering}
use Rattle.aig_image.specs.Image.{IsBinaryImage, image_by}
use Rattle.aig_image.specs.Parts.Numbers.{IsRenumberingOf, first_variables, number_in, number_of}
use Rattle.aig_image.specs.Parts.Placed.{FollowOn}
use Rattle.aig_image.specs.Renumbering.{in_new_order, renumbered}
use Rattle.aig_checked.specs.BinaryOrder.{IsNumberedInOrder}
use Rattle.aig_checked.proofs.Numbered.{numbered_variables_are}
use Rattle.aig_image.proofs.Imaging.OwnImage.{numbered_in_order}
use Rattle.aig_image.proofs.Imaging.InTurn.{all_taken, has_defined, many as as_many, new_once, one_to_one}
use Rattle.aig_image.proofs.Imaging.InTurn.{order_there, taken_variables}
use Rattle.aig_image.proofs.Imaging.Placed.{at_gate}
use Rattle.aig_image.proofs.Numbering.Kept.{in_place}
use Rattle.aig_image.proofs.Numbering.Places.{here, number_at, numbered_on, somewhere}
use Rattle.aig_map.specs.MapBlock.{map_block, mapped_gate}
use Rattle.aig_map.specs.declared.map_block.MappedGate.{MappedGate}
use Rattle.aig_arrays.specs.Ordered.{IsNumberedImageIn, new_numbers}
use Rattle.aig_arrays.specs.Parts.Numbered.{AreGateNumbers}
use Rattle.aig_arrays.specs.Parts.Placed.{placed}
use Rattle.aig_arrays.proofs.Placing.{others_left, placed_between}

-- numbers from the first one on, by how far they are from it
by_places : (number : ℕ → ℕ) (first : ℕ) (gates : List Gate) → AllByRecursion (λ v. first ≤ number v) (variables gates)
    → map number (variables gates) ≡ map (λ (g : MappedGate). first + g.place) (map (mapped_gate number first) gates)
by_places number first [] above = refl
by_places number first (g ∷ gates) above =
    ap₂ (λ (n : ℕ) ns. n ∷ ns) (omega (arith, above.0)) (by_places number first gates above.1)

-- the variables of inputs and latches
first_length : (c : Circuit) → length (first_variables c) ≡ length c.inputs + length c.latches
first_length c =
    omega (
      arith,
      length-append c.inputs (map (λ (l : Latch). l.var) c.latches),
      length-map c.latches (λ (l : Latch). l.var),
    )

module _ (c : Circuit) (order : List ℕ) (good : IsWellFormed c) (least : IsLeastReadyOrder c order) where
  abbrev vs : List ℕ
  vs = in_new_order c order

  abbrev number : ℕ → ℕ
  number = renumbered vs

  abbrev first : List ℕ
  first = first_variables c

  abbrev start : ℕ
  start = 1 + length c.inputs + length c.latches

  many : 1 + length first ≡ start
  many = omega (arith, first_length c)

  first_numbers : map number first ≡ range_with_len 1 (length c.inputs + length c.latches)
  first_numbers =
      numbered_on vs [] first (taken_variables c.gates order) (new_once c order good least)
      (all_weaker (IsVariableUpTo c.max_var) (λ v. 1 ≤ v) (λ v r. r.0) first
      (front (IsVariableUpTo c.max_var) first (variables c.gates) good.in_range))
      refl
      ∙ ap (range_with_len 1) (omega (arith, many))

  -- the variable of a gate stands after those of inputs and latches
  above : (v : ℕ) → IsAmong v (variables c.gates) → start ≤ number v
  above v of_gate =
      let defined : IsAmong v (defined_variables c) = among_last first (variables c.gates) v of_gate in
      let low : 1 ≤ v = (each (IsVariableUpTo c.max_var) (defined_variables c) good.in_range v defined).0 in
      let there = somewhere v vs (has_defined c order good least v defined) in
      let number_is : number v ≡ 1 + there.0 = search (rules, number_at, new_once) in
      ⊎_elim
      (λ (b : there.0 < length first).
      let in_first : IsAmong v first = search (rules, here, get_or-append) in
      absurd (distinct_apart first (variables c.gates) good.once v in_first of_gate))
      (λ (b : length first ≤ there.0). omega (arith, b, many, number_is))
      (cases_lt there.0 (length first))

  pub numbers_are_the_maps : new_numbers order c ≡ range_with_len 1 (length c.inputs + length c.latches)
      ++ map (λ (g : MappedGate). start + g.place) (map_block order c).gates
  numbers_are_the_maps =
      map-append number first (variables c.gates)
      ∙ ap₂ (λ (ns ms : List ℕ). ns ++ ms) first_numbers
      (by_places number start c.gates (all_of (λ v. start ≤ number v) (variables c.gates) above))

  -- those that gates have by their positions follow those of inputs and latches
  pub numbers_follow : (given : List ℕ) → FollowOn (length first) order given
      → new_numbers order c ≡ range_with_len 1 (length first) ++ given
  numbers_follow given follow =
      let gates : length (variables c.gates) ≡ length c.gates = length-map c.gates (λ (g : Gate). g.var) in
      let long : length (map number (variables c.gates)) ≡ length given =
      omega (
        arith,
        gates,
        length-map (variables c.gates) number,
        follow.many,
        all_taken c order good least,
      ) in
      map-append number first (variables c.gates)
      ∙ ap₂ (λ (ns ms : List ℕ). ns ++ ms) (first_numbers ∙ ap (range_with_len 1) (omega (arith, many)))
      (same_number_lists (map number (variables c.gates)) given long
      (λ k below.
      let there : k < length c.gates = omega (arith, below, gates, length-map (variables c.gates) number) in
      get_or-map number (variables c.gates) k 0 0 (omega (arith, there, gates))
      ∙ ap number (get_or-map (λ (g : Gate). g.var) c.gates k no_gate 0 there)
      ∙ sym (at_gate c order good least given follow k there).0))

  -- the numbers that are noted are the new ones
  pub noted_numbers : (noted : ℕ → ℕ) → ((v : ℕ) → noted v ≡ number_in vs v)
      → map noted (defined_variables c) ≡ new_numbers order c
  noted_numbers noted decoded = map_same noted number (defined_variables c) (λ v defined.
      let low : 1 ≤ v = (each (IsVariableUpTo c.max_var) (defined_variables c) good.in_range v defined).0 in
      let fits = ((one_to_one c order good least).within v defined).1 in
      decoded v
      ∙ in_place v vs (λ e. absurd (omega (arith, low, e))) (omega (arith, fits, as_many c order good least)))

-- the numbers of inputs, latches and gates, put one after another
pub numbers_placed : (noted : ℕ → ℕ) (c : Circuit) (array one two : List ℕ) (mid end : ℕ)
    → one ≡ placed 0 (map noted c.inputs) array → two ≡ placed mid (map (λ (l : Latch). noted l.var) c.latches) one
    → mid ≡ length c.inputs → end ≡ length c.inputs + length c.latches
    → placed end (map (λ (g : Gate). noted g.var) c.gates) two ≡ placed 0 (map noted (defined_variables c)) array
numbers_placed noted c array one two mid end one_is two_is mid_is end_is =
    let inputs : List ℕ = map noted c.inputs in
    let latches : List ℕ = map (λ (l : Latch). noted l.var) c.latches in
    let gates : List ℕ = map (λ (g : Gate). noted g.var) c.gates in
    let all : placed 0 (map noted (defined_variables c)) array ≡ placed 0 ((inputs ++ latches) ++ gates) array =
    ap (λ xs. placed 0 xs array)
    (map-append noted (c.inputs ++ map (λ (l : Latch). l.var) c.latches) (variables c.gates)
    ∙ ap₂ (λ xs ys. xs ++ ys)
    (map-append noted c.inputs (map (λ (l : Latch). l.var) c.latches)
    ∙ ap (λ ys. inputs ++ ys) (map-map noted (λ (l : Latch). l.var) c.latches))
    (map-map noted (λ (g : Gate). g.var) c.gates)) in
    let two_are =
    two_is
    ∙ others_left 0 inputs latches array _ refl mid one (omega (arith, mid_is, length-map c.inputs noted)) one_is in
    others_left 0 (inputs ++ latches) gates array _ refl end two
    (omega (
      arith,
      end_is,
      length-append inputs latches,
      length-map c.inputs noted,
      length-map c.latches (λ (l : Latch). noted l.var),
    ))
    two_are
    ∙ sym all

-- the image, and its numbers put at the front of an array
put_at_front : (c image : Circuit) (order numbers old new : List ℕ) → IsLeastReadyOrder c order
    → IsBinaryImage c image → numbers ≡ new_numbers order c → length (defined_variables c) ≤ length old
    → new ≡ placed 0 numbers old → IsNumberedImageIn c image old new
put_at_front c image order numbers old new least (other, least_too, is) are room put =
    let same : other ≡ order = one_least_ready_order c other order least_too least in
    let long : length numbers ≡ length (defined_variables c) =
    ap length are ∙ length-map (defined_variables c) (renumbered (in_new_order c order)) in record {
      numbers = numbers;
      is_image = record {
        order = order;
        least = least;
        is_image = is ∙ ap (λ (o : List ℕ). image_by o c) same;
        are_numbers = are;
      };
      at_front = put ∙ placed_between [] numbers old (omega (arith, long, room));
    }

-- those that were noted
pub noted_at_front : (c image : Circuit) (r : Renumbering) (old new : List ℕ) → IsWellFormed c → IsRenumberingOf c r
    → IsBinaryImage c image → length (defined_variables c) ≤ length old
    → new ≡ placed 0 (map (number_of r.numbers) (defined_variables c)) old → IsNumberedImageIn c image old new
noted_at_front c image r old new good of_it is =
    put_at_front c image of_it.order (map (number_of r.numbers) (defined_variables c)) old new of_it.least is
    (noted_numbers c of_it.order good of_it.least (number_of r.numbers) of_it.numbers.numbers)

-- an order is of all gates, which fit beside what is before them
pub order_fits : (c : Circuit) (order : List ℕ) → IsWellFormed c → IsLeastReadyOrder c order
    → length (first_variables c) + length order ≤ largest_index
order_fits c order good least =
    omega (arith, first_length c, definitions_fit c good, good.limits.max_var, all_taken c order good least)

pub order_below : (c : Circuit) (order : List ℕ) → IsWellFormed c → IsLeastReadyOrder c order
    → AllByRecursion (λ at. at < length order) order
order_below c order good least =
    subst (λ n. AllByRecursion (λ at. at < n) order) (sym (all_taken c order good least))
    (order_there c order good least)

pub given_fit : (c : Circuit) (given : List ℕ) → IsWellFormed c → AreGateNumbers c given
    → length (first_variables c) + length given ≡ length (defined_variables c)
given_fit c given good are =
    omega (
      arith,
      first_length c,
      length-append (first_variables c) (variables c.gates),
      length-map c.gates (λ (g : Gate). g.var),
      are.follow.many,
      all_taken c are.order good are.least,
    )

-- those of gates, which are put after those from 1 on
pub gates_at_front : (c image : Circuit) (given between old new : List ℕ) (end : ℕ) → IsWellFormed c
    → AreGateNumbers c given → IsBinaryImage c image → length (defined_variables c) ≤ length old
    → between ≡ placed 0 (range_with_len 1 end) old → end ≡ length (first_variables c)
    → new ≡ placed end given between → IsNumberedImageIn c image old new
gates_at_front c image given between old new end good are is room first_put end_is put =
    let first : List ℕ = range_with_len 1 end in
    let all : first ++ given ≡ new_numbers are.order c =
    ap (λ n. range_with_len 1 n ++ given) end_is
    ∙ sym (numbers_follow c are.order good are.least given are.follow) in
    put_at_front c image are.order (first ++ given) old new are.least is all room
    (put
    ∙ others_left 0 first given old (placed 0 (first ++ given) old) refl end between
    (omega (arith, length-range_with_len 1 end)) first_put)

-- as many variables are defined as the largest one tells, where they are numbered in order
pub as_many_defined : (c : Circuit) → IsNumberedInOrder c → length (defined_variables c) ≡ c.max_var
as_many_defined c numbered = ap length (numbered_variables_are c numbered) ∙ length-range_with_len 1 c.max_var

-- those from 1 on, where the variables are numbered in order
pub first_at_front : (c image : Circuit) (old new : List ℕ) → IsWellFormed c → IsNumberedInOrder c
    → IsBinaryImage c image → length (defined_variables c) ≤ length old
    → new ≡ placed 0 (range_with_len 1 c.max_var) old → IsNumberedImageIn c image old new
first_at_front c image old new good numbered is =
    let all : List ℕ = defined_variables c in
    let as_they_stand : List ℕ = range_with_len 0 (length c.gates) in
    let same : in_new_order c as_they_stand ≡ all =
    ap (λ gates. (c.inputs ++ map (λ (l : Latch). l.var) c.latches) ++ variables gates)
    (pick_l_whole no_gate c.gates (length c.gates) refl) in
    let on : map (renumbered all) all ≡ range_with_len 1 (length all) =
    numbered_on all [] all [] good.once
    (all_weaker (IsVariableUpTo c.max_var) (λ v. 1 ≤ v) (λ v r. r.0) all good.in_range)
    (sym (append-nil all)) in
    put_at_front c image as_they_stand (range_with_len 1 c.max_var) old new (numbered_in_order c numbered) is
    (ap (range_with_len 1) (sym (as_many_defined c numbered)) ∙ sym on ∙ ap (λ ws. map (renumbered ws) all) (sym same))
