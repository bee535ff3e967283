use Rattle.std.specs.Prelude.{◌≡◌, ◌+◌, length, drop}
use Rattle.aig_step.specs.Parts.Tables.{placed}
use Rattle.aig_step.proofs.evaluate.put_values.Given as goal

abbrev pub invariant-loop-value : goal.invariant-loop-value
invariant-loop-value l =
    (placed l.at (drop l.value-index l.given) l.values ≡ placed l.first l.given l.fn.values)
    × (length l.values ≡ length l.fn.values) × (l.at ≡ l.first + l.value-index)
