use Rattle.std.specs.Prelude.{◌≡◌, ◌+◌, ◌-◌, length, drop}
use Rattle.aig_step.specs.Parts.Cells.{AreCodes, values_of_bytes}
use Rattle.aig_step.specs.Parts.Tables.{evaluated}
use Rattle.aig_step.proofs.cells.Table.evaluate.Given as goal

abbrev pub invariant-loop-pair : goal.invariant-loop-pair
invariant-loop-pair l =
    AreCodes l.codes
    × (evaluated l.variable (drop l.pair-index l.pairs) (values_of_bytes l.codes)
    ≡ evaluated (length l.fn.self - length l.pairs) l.pairs l.fn.self)
    × (length (values_of_bytes l.codes) ≡ length l.fn.self)
    × (l.variable + length l.pairs ≡ length (values_of_bytes l.codes) + l.pair-index)
