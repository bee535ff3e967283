use Rattle.std.specs.Prelude.{◌≡◌, ◌+◌, List, Some, length, take}
use Rattle.aig_circuit.specs.declared.value.Val.{Val}
use Rattle.aig_step.specs.Stimulus.{values_of}
use Rattle.aig_step.specs.Parts.Cells.{AreCodes, values_of_bytes}
use Rattle.aig_step.specs.Parts.Tables.{placed}
use Rattle.aig_step.proofs.cells.Table.put_characters.Given as goal

abbrev pub invariant-loop-character : goal.invariant-loop-character
invariant-loop-character l =
    AreCodes l.codes
    × ((given : List Val) × (values_of (take l.character-index l.text) ≡ Some given)
    × (values_of_bytes l.codes ≡ placed l.first given l.fn.self) × (length given ≡ l.character-index))
    × (length (values_of_bytes l.codes) ≡ length l.fn.self) × (l.at ≡ l.first + l.character-index)
