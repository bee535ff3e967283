use Rattle.std.proofs.Common.{take, flat_map}
use Rattle.aig_io.specs.Output.{Appended}
use Rattle.aig_text.specs.AsciiText.{numbers_text}
use Rattle.aig_map.specs.declared.map_block.MappedGate.{MappedGate}
use Rattle.aig_map.specs.MapBlock.{mapped_row}
use Rattle.aig_map.specs.Parts.NewPlace.{gates_recorded}
use Rattle.aig_map.proofs.map_text.put_gates.Given as goal

abbrev pub invariant-loop-at : goal.invariant-loop-at
invariant-loop-at g l =
    Appended l.fn.output l.output
    (flat_map (λ (m : MappedGate). numbers_text (mapped_row m)) (take l.at (gates_recorded l.variables l.new_places)))
