-- The text of a mapped image: that of the image without a comment, and after it the comment section.
use Rattle.std.proofs.Common.{◌≡◌, ◌++◌, ◌∙◌, ℕ, List, [], Option, None, ap, append_assoc, flat_map}
use Rattle.std.proofs.lemmas.List.{append-nil}
use Rattle.aig_circuit.specs.declared.circuit.Circuit.{Circuit}
use Rattle.aig_text.specs.AsciiText.{comment_text, header_text, line_text, symbol_text}
use Rattle.aig_text.specs.Sections.{header_row}
use Rattle.aig_binary.specs.BinaryGrammar.{binary_rows_of, binary_word}
use Rattle.aig_binary.specs.BinaryText.{binary_text, gate_text}
use Rattle.aig_map.specs.declared.map_block.MapBlock.{MapBlock}
use Rattle.aig_map.specs.Parts.Kept.{with_block}

-- a text after four others, the last of them empty
behind : (a b d s t : List ℕ) → (a ++ (b ++ (d ++ (s ++ [])))) ++ t ≡ a ++ (b ++ (d ++ (s ++ t)))
behind a b d s t = simp (append_assoc, append-nil)

module _ (whole plain : Circuit) (block : MapBlock) (comment : Option (List ℕ))
    (is : whole ≡ with_block block (record plain { comment = comment })) (none : plain.comment ≡ None) where
  abbrev section : Circuit → List ℕ
  section c = comment_text c.comment

  abbrev made : Circuit
  made = with_block block (record plain { comment = comment })

  abbrev with_section : Option (List ℕ) → List ℕ
  with_section o =
      header_text binary_word (header_row plain)
      ++ (flat_map line_text (binary_rows_of plain)
      ++ (flat_map gate_text plain.gates ++ (flat_map symbol_text plain.symbols ++ comment_text o)))

  made_text : binary_text plain ++ section made ≡ binary_text made
  unfolding binary_text
  made_text =
      ap (λ (o : Option (List ℕ)). with_section o ++ section made) none
      ∙ behind (header_text binary_word (header_row plain)) (flat_map line_text (binary_rows_of plain))
      (flat_map gate_text plain.gates) (flat_map symbol_text plain.symbols) (section made)

  pub text_is : binary_text plain ++ section whole ≡ binary_text whole
  text_is = rw is made_text
