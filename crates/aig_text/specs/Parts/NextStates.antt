-- The latches that the lines of a binary file tell.
use Rattle.std.specs.Prelude.{ℕ, suc, List, [], ◌∷◌}
use Rattle.aig_circuit.specs.declared.circuit.Latch.{Latch}
use Rattle.aig_rows.specs.declared.row.NextState.{NextState}

-- latches of this variable and the next ones, by what those lines tell
unfoldable pub latches_by : ℕ → List NextState → List Latch
latches_by variable [] = []
latches_by variable (n ∷ ns) =
    record { var = variable; next = n.next; reset = n.reset } ∷ latches_by (suc variable) ns
