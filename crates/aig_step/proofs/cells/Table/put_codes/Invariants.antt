use Rattle.std.specs.Prelude.{◌≡◌, ◌+◌, length, drop}
use Rattle.aig_step.specs.Parts.Cells.{AreCodes, values_of_bytes}
use Rattle.aig_step.specs.Parts.Tables.{placed}
use Rattle.aig_step.proofs.cells.Table.put_codes.Given as goal

abbrev pub invariant-loop-value : goal.invariant-loop-value
invariant-loop-value l =
    AreCodes l.codes
    × (placed l.at (drop l.value-index l.given) (values_of_bytes l.codes) ≡ placed l.first l.given l.fn.self)
    × (length (values_of_bytes l.codes) ≡ length l.fn.self) × (l.at ≡ l.first + l.value-index)
