use Rattle.std.proofs.Common.{◌∙◌, List, ℕ, [], map, map-id, refl, ap, nat_cmp}
use Rattle.std.specs.FinMap.{get, get-empty}
use Rattle.aig_circuit.specs.declared.circuit.Latch.{Latch}
use Rattle.aig_meaning.proofs.Related.{distinct_apart, distinct_front}
use Rattle.aig_topo.proofs.Ordering.Ranked.{distinct_back}
use Rattle.aig_image.specs.Parts.Numbers.{HaveNumbers}
use Rattle.aig_image.proofs.Numbering.Kept.{two_sections, none_noted, no_number}
use Rattle.aig_image.proofs.numbers.Numbers.first_into.Goals as goal

pub note_all-requires-clause-once : goal.note_all-requires-clause-once
note_all-requires-clause-once c =
    let circuit = c.args.circuit.now in
    rw (map-id c.as_slice.result.now, c.as_slice.ensures)
    (distinct_front circuit.inputs (map (λ (l : Latch). l.var) circuit.latches) c.requires.once)

pub note_all-requires-clause-none : goal.note_all-requires-clause-none
note_all-requires-clause-none c = λ v a. ap (λ m. get m v) c.requires.none ∙ get-empty nat_cmp v

pub note_all-requires-2-clause-once : goal.note_all-requires-2-clause-once
note_all-requires-2-clause-once c =
    let circuit = c.args.circuit.now in
    rw c.as_slice-2.ensures
    (distinct_back circuit.inputs (map (λ (l : Latch). l.var) circuit.latches) c.requires.once)

pub note_all-requires-2-clause-none : goal.note_all-requires-2-clause-none
note_all-requires-2-clause-none c = λ v a.
    let circuit = c.args.circuit.now in
    let latches : List ℕ = map (λ (l : Latch). l.var) circuit.latches in
    let numbered : HaveNumbers c.note_all.new.self circuit.inputs =
    rw (map-id c.as_slice.result.now, c.as_slice.ensures) at
    (c.in_ok-note_all.ensures.numbers [] (none_noted _ refl c.requires.none)) in
    numbered.others v
    (no_number v circuit.inputs
    (λ b. distinct_apart circuit.inputs latches c.requires.once v b (rw c.as_slice-2.ensures at a)))

pub returns-clause-numbers : goal.returns-clause-numbers
returns-clause-numbers c =
    two_sections
    (λ (l : Latch). l.var) c.note_all-2.new.self c.as_slice.result.now c.args.circuit.now.inputs c.as_slice-2.result.now
    c.args.circuit.now.latches c.as_slice.ensures c.as_slice-2.ensures
    (c.in_ok-note_all-2.ensures.numbers _
    (c.in_ok-note_all.ensures.numbers [] (none_noted _ refl c.requires.none)))
