use Rattle.std.proofs.Common.{◌++◌, List, ℕ, [], ap, flat_map, sym}
use Rattle.aig_rows.specs.Rows.{gate_row, input_row, latch_row, literal_row, size_row}
use Rattle.aig_arrays.specs.Parts.Placed.{placed}
use Rattle.aig_arrays.specs.Words.{section_words}
use Rattle.aig_arrays.proofs.Placing.{others_left}
use Rattle.aig_arrays.proofs.Written.{section_rows}
use Rattle.aig_arrays.proofs.put.put_sections.Goals as goal

pub returns-clause-words : goal.returns-clause-words
returns-clause-words c =
    let d = c.args.circuit.now in
    let left9 : List ℕ = flat_map gate_row d.gates ++ [] in
    let left8 : List ℕ = flat_map literal_row d.fairness ++ left9 in
    let left7 : List ℕ = flat_map literal_row d.justice.literals ++ left8 in
    let left6 : List ℕ = flat_map size_row d.justice.sizes ++ left7 in
    let left5 : List ℕ = flat_map literal_row d.constraints ++ left6 in
    let left4 : List ℕ = flat_map literal_row d.bad ++ left5 in
    let left3 : List ℕ = flat_map literal_row d.outputs ++ left4 in
    let left2 : List ℕ = flat_map latch_row d.latches ++ left3 in
    let all : List ℕ = placed 0 (section_words d) c.args.words.now in
    others_left _ (flat_map gate_row d.gates) [] _ all
    (others_left _ (flat_map literal_row d.fairness) left9 _ all
    (others_left _ (flat_map literal_row d.justice.literals) left8 _ all
    (others_left _ (flat_map size_row d.justice.sizes) left7 _ all
    (others_left _ (flat_map literal_row d.constraints) left6 _ all
    (others_left _ (flat_map literal_row d.bad) left5 _ all
    (others_left _ (flat_map literal_row d.outputs) left4 _ all
    (others_left _ (flat_map latch_row d.latches) left3 _ all
    (others_left 0 (flat_map input_row d.inputs) left2 _ all
    (ap (λ (xs : List ℕ). placed 0 xs c.args.words.now) (sym (section_rows d)))
    _ _ c.put_section-end.ensures.end c.put_section-end.ensures.words)
    _ _ c.put_section-end-2.ensures.end c.put_section-end-2.ensures.words)
    _ _ c.put_section-end-3.ensures.end c.put_section-end-3.ensures.words)
    _ _ c.put_section-end-4.ensures.end c.put_section-end-4.ensures.words)
    _ _ c.put_section-end-5.ensures.end c.put_section-end-5.ensures.words)
    _ _ c.put_section-end-6.ensures.end c.put_section-end-6.ensures.words)
    _ _ c.put_section-end-7.ensures.end c.put_section-end-7.ensures.words)
    _ _ c.put_section-end-8.ensures.end c.put_section-end-8.ensures.words)
    _ _ c.put_section.ensures.end c.put_section.ensures.words
