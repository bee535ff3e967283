-- What a circuit was, but for its variables.
use Rattle.std.specs.Prelude.{ℕ, List, [], map, Option}
use Rattle.aig_circuit.specs.declared.circuit.Gate.{Gate}
use Rattle.aig_circuit.specs.declared.circuit.Circuit.{Circuit}
use Rattle.aig_image.specs.Relabelled.{relabelled_gate}
use Rattle.aig_image.specs.Reordered.{taken}
use Rattle.aig_map.specs.declared.map_block.MappedGate.{MappedGate}
use Rattle.aig_map.specs.Undone.{places_recorded}

-- the gates from the places that are recorded, by these labels, with their operands as they stand
abbrev pub gates_there : (ℕ → ℕ) → List Gate → List MappedGate → List Gate
gates_there f gates recorded = map (relabelled_gate f) (taken gates (places_recorded recorded))

-- the circuit without gates, with this largest index and this comment
abbrev pub without_gates : ℕ → Option (List ℕ) → Circuit → Circuit
without_gates max_var comment x = record x { max_var = max_var; gates = []; comment = comment }
