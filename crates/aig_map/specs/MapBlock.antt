-- The map block and the mapped image (this project's profile). Conversion to binary gives variables new numbers, gates
-- a new order, and may exchange the operands of a gate. The block is a text that tells all of this, and the mapped
-- image is the binary image with it at the front of its comment.
use Rattle.std.specs.Prelude.{◌≡◌, ◌+◌, ◌-◌, ◌++◌, ℕ, List, [], ◌∷◌, length, map, Bool, Some, codes}
use Rattle.std.specs.Prelude.{if◌then◌else◌}
use Rattle.std.specs.List.{flat_map}
use Rattle.std.specs.Option.{unwrap_or, is_some}
use Rattle.aig_circuit.specs.declared.circuit.Latch.{Latch}
use Rattle.aig_circuit.specs.declared.circuit.Gate.{Gate}
use Rattle.aig_circuit.specs.declared.circuit.Circuit.{Circuit}
use Rattle.aig_topo.specs.Order.{IsLeastReadyOrder}
use Rattle.aig_text.specs.AsciiText.{more_numbers_text, numbers_text}
use Rattle.aig_map.specs.declared.map_block.MappedGate.{MappedGate}
use Rattle.aig_map.specs.declared.map_block.MapBlock.{MapBlock}
use Rattle.aig_image.specs.Relabelled.{relabelled_gate}
use Rattle.aig_image.specs.Renumbering.{in_new_order, renumbered}
use Rattle.aig_image.specs.Reordered.{has_smaller_first}
use Rattle.aig_image.specs.Image.{image_by}

abbrev pub one_if : Bool → ℕ
one_if b = if b then 1 else 0

-- the numbers of the first line: the version, the largest index, the counts, and whether there is a comment section
abbrev pub first_row : MapBlock → List ℕ
first_row b = 1 ∷ b.max_var ∷ length b.inputs ∷ length b.latches ∷ length b.gates ∷ one_if b.has_comment ∷ []

-- the line of an input or a latch: its variable
abbrev pub variable_row : ℕ → List ℕ
variable_row v = v ∷ []

-- the line of a gate: its variable, its place, and whether its operands are exchanged
abbrev pub mapped_row : MappedGate → List ℕ
mapped_row g = g.var ∷ g.place ∷ one_if g.exchanged ∷ []

abbrev pub block_rows : MapBlock → List (List ℕ)
block_rows b = map variable_row b.inputs ++ map variable_row b.latches ++ map mapped_row b.gates

abbrev pub map_word : List ℕ
map_word = codes "aigmap"

abbrev pub last_line : List ℕ
last_line = codes "aigmap end\n"

-- the first line: the word, and each of its numbers after a space, a zero at the end too
abbrev pub first_line_text : List ℕ → List ℕ
first_line_text ns = map_word ++ more_numbers_text ns

-- the text of a block, in canonical numbers and single spaces
unfoldable pub block_text : MapBlock → List ℕ
block_text b = first_line_text (first_row b) ++ (flat_map numbers_text (block_rows b) ++ last_line)

-- What is recorded of a gate whose variables become others by f. Its place is how far its new variable is from that of
-- the first gate, and its operands are exchanged where the smaller one would come first.
abbrev pub mapped_gate : (ℕ → ℕ) → ℕ → Gate → MappedGate
mapped_gate f first g = let new = relabelled_gate f g in record {
  var = g.var;
  place = new.var - first;
  exchanged = has_smaller_first new;
}

-- what is recorded of a circuit whose variables become others by f
abbrev pub block_by : (ℕ → ℕ) → Circuit → MapBlock
block_by f c = record {
  max_var = c.max_var;
  inputs = c.inputs;
  latches = map (λ (l : Latch). l.var) c.latches;
  gates = map (mapped_gate f (1 + length c.inputs + length c.latches)) c.gates;
  has_comment = is_some c.comment;
}

-- what is recorded of a circuit whose gates are taken in this order
abbrev pub map_block : List ℕ → Circuit → MapBlock
map_block order c = block_by (renumbered (in_new_order c order)) c

-- a block, and then the comment of the circuit
abbrev pub mapped_comment : MapBlock → Circuit → List ℕ
mapped_comment b c = block_text b ++ unwrap_or c.comment []

-- the image with that comment
abbrev pub mapped_by : List ℕ → Circuit → Circuit
mapped_by order c = record (image_by order c) { comment = Some (mapped_comment (map_block order c) c) }

-- the one circuit that is this circuit's mapped image
abbrev pub IsMappedImage : Circuit → Circuit → Type 0
IsMappedImage c image = (order : List ℕ) × IsLeastReadyOrder c order × (image ≡ mapped_by order c)
