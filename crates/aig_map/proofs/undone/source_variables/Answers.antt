use Rattle.std.proofs.Common.{◌≡◌, ◌∙◌, ◌++◌, ◌+◌, ◌-◌, ◌≤◌, rules, ℕ, List, take, length, map, replicate, ap, ap₂}
use Rattle.std.proofs.Common.{arith, inr, refl, length-append, take_all}
use Rattle.std.specs.List.{range_with_len}
use Rattle.std.proofs.lemmas.List.FromFn.{length-map-range_with_len}
use Rattle.std.proofs.Math.Seq.{take-append_seam}
use Rattle.aig_map.specs.Undone.{variable_at_place}
use Rattle.aig_map.proofs.Sources.Placed.{places_once, place_twice, table_is}
use Rattle.aig_map.proofs.undone.source_variables.Goals as goal

-- what stands before the places of gates, of a list that was made longer
front_stays : (front rest all : List ℕ) (first count : ℕ) → first ≡ length front → first ≤ count
    → all ≡ take count front ++ rest → take first all ≡ front
front_stays front rest all first count is most whole = search (rules, take_all, take-append_seam)

-- so many of a list and others, where these are all of the list
all_taken : (all rest : List ℕ) (count : ℕ) → count ≡ length all → take count (all ++ rest) ≡ all
all_taken all rest count is = ap (λ k. take k (all ++ rest)) is ∙ take-append_seam all rest

pub returns-then-place_gates-clause-ok : goal.returns-then-place_gates-clause-ok
returns-then-place_gates-clause-ok c =
    let block = c.args.block.now in
    let all = c.if-place_gates.ensures.all in
    let front : List ℕ = block.inputs ++ block.latches in
    let behind : List ℕ = map (variable_at_place block.gates) (range_with_len 0 (length block.gates)) in
    let gates = table_is block.max_var block.gates c.requires.bounds.gates all.0 (rw c.as_slice-3.ensures at all.1) in
    let many : length front ≡ length block.inputs + length block.latches = length-append block.inputs block.latches in
    let before = c.in_ok-extend_from_slice-2.ensures.items
    ∙ ap₂ (λ s t. s ++ t)
    (c.in_ok-extend_from_slice.ensures.items
    ∙ ap₂ (λ s t. s ++ t) c.in_ok-variables.ensures.items c.as_slice.ensures) c.as_slice-2.ensures in
    let count : ℕ = c.len.result + c.len-2.result + c.len-3.result in
    let zeros : List ℕ = replicate (count - c.extend_from_slice-2.new.self.len) 0 in
    let longer = c.in_ok-resize.ensures.items in
    let first = front_stays front zeros c.as_mut_slice.result.now (c.len.result + c.len-2.result) count
    (omega (arith, many, c.len.ensures, c.len-2.ensures)) (omega arith)
    (search rules) in
    let new = all.2 ∙ ap₂ (λ s t. s ++ t) first gates in
    let long = ap length new ∙ length-append front behind
    ∙ ap (λ n. length front + n) (length-map-range_with_len (variable_at_place block.gates) 0 (length block.gates)) in
    search (rules, all_taken)

pub returns-then-place_gates-clause-places : goal.returns-then-place_gates-clause-places
returns-then-place_gates-clause-places c =
    let block = c.args.block.now in
    let all = c.if-place_gates.ensures.all in
    places_once block.max_var block.gates c.requires.bounds.gates all.0 (rw c.as_slice-3.ensures at all.1)

pub returns-else-place_gates-clause-err : goal.returns-else-place_gates-clause-err
returns-else-place_gates-clause-err c =
    let block = c.args.block.now in
    inr (
      c.refused_whole.ensures,
      place_twice block.max_var block.gates c.requires.bounds.gates
          (rw c.as_slice-3.ensures at c.if-place_gates.ensures.twice),
    )
