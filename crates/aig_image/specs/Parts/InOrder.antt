-- Gates that stand in order: each over nothing but constants and what is defined before it.
use Rattle.std.specs.Prelude.{◌<◌, ℕ, List, ◌++◌, map, take, length, slice_index_or}
use Rattle.std.specs.List.{AllByRecursion}
use Rattle.aig_circuit.specs.declared.circuit.Gate.{Gate}
use Rattle.aig_circuit.specs.Wellformed.{IsKnown, operands}

-- the first ones are defined before all gates
abbrev pub StandInOrder : List ℕ → List Gate → Type 0
StandInOrder first gates = (at : ℕ) → at < length gates
    → AllByRecursion
    (IsKnown (first ++ map (λ (g : Gate). g.var) (take at gates)))
    (operands (slice_index_or gates at (record { var = 0; left = 0; right = 0 })))
