-- The text of a map block, part by part as it is put.
use Rattle.std.proofs.Common.{◌≡◌, ◌++◌, ◌∙◌, rules, ℕ, List, length, append_assoc, ap, flat_map}
use Rattle.std.proofs.lemmas.List.{length-map}
use Rattle.std.proofs.lemmas.List.Concat.{flat_map-append}
use Rattle.std.proofs.lemmas.List.Folds.{flat_map-map}
use Rattle.aig_circuit.specs.declared.circuit.Circuit.{Circuit}
use Rattle.aig_text.specs.AsciiText.{numbers_text}
use Rattle.aig_image.specs.Relabelled.{relabelled, relabelled_gate, relabelled_latch}
use Rattle.aig_map.specs.declared.map_block.MapBlock.{MapBlock}
use Rattle.aig_map.specs.declared.map_block.MappedGate.{MappedGate}
use Rattle.aig_map.specs.MapBlock.{first_row, variable_row, mapped_row, block_rows, first_line_text, last_line}
use Rattle.aig_map.specs.MapBlock.{block_text}

-- three sections and the last line
in_turn : (a b d last : List ℕ) → a ++ (b ++ (d ++ last)) ≡ ((a ++ b) ++ d) ++ last
in_turn a b d last = simp append_assoc

module _ (b : MapBlock) where
  abbrev of_variable : ℕ → List ℕ
  of_variable v = numbers_text (variable_row v)

  abbrev of_gate : MappedGate → List ℕ
  of_gate g = numbers_text (mapped_row g)

  -- the lines between the first and the last
  rows_text : (flat_map of_variable b.inputs ++ flat_map of_variable b.latches) ++ flat_map of_gate b.gates
      ≡ flat_map numbers_text (block_rows b)
  rows_text = search (rules, flat_map-append, flat_map-map)

  -- the lines of a block, one section after the other
  pub parts_text : first_line_text (first_row b)
      ++ (flat_map of_variable b.inputs ++ (flat_map of_variable b.latches
      ++ (flat_map of_gate b.gates ++ last_line))) ≡ block_text b
  unfolding block_text
  parts_text = search (rules, in_turn, rows_text)

module _ (f : ℕ → ℕ) (c new : Circuit) (is : new ≡ relabelled f c) where
  -- there are as many of each
  pub as_many_inputs : length new.inputs ≡ length c.inputs
  as_many_inputs = ap (λ (d : Circuit). length d.inputs) is ∙ length-map c.inputs f

  pub as_many_latches : length new.latches ≡ length c.latches
  as_many_latches = ap (λ (d : Circuit). length d.latches) is ∙ length-map c.latches (relabelled_latch f)

  pub as_many_gates : length new.gates ≡ length c.gates
  as_many_gates = ap (λ (d : Circuit). length d.gates) is ∙ length-map c.gates (relabelled_gate f)
