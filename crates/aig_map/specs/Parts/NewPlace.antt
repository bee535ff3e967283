-- What became of a gate of the source in one number: its place in the image, and whether its operands are exchanged.
use Rattle.std.specs.Prelude.{◌+◌, ◌-◌, ◌*◌, ◌/◌, ◌%◌, ◌==◌, ℕ, List, Bool}
use Rattle.std.specs.Simd.Lanes.{zip2}
use Rattle.aig_circuit.specs.declared.circuit.Gate.{Gate}
use Rattle.aig_image.specs.Relabelled.{relabelled_gate}
use Rattle.aig_image.specs.Reordered.{has_smaller_first}
use Rattle.aig_map.specs.declared.map_block.MappedGate.{MappedGate}
use Rattle.aig_map.specs.MapBlock.{one_if}

abbrev pub new_place : ℕ → Bool → ℕ
new_place place exchanged = 2 * place + one_if exchanged

-- by the gate of the image that it became, where the first one has this variable
abbrev pub new_place_of : ℕ → Gate → ℕ
new_place_of first new = new_place (new.var - first) (has_smaller_first new)

-- by what variables become
abbrev pub new_place_by : (ℕ → ℕ) → ℕ → Gate → ℕ
new_place_by f first g = new_place_of first (relabelled_gate f g)

-- what is recorded of a gate that had this variable and has this new place
abbrev pub gate_recorded : ℕ → ℕ → MappedGate
gate_recorded var new = record { var = var; place = new / 2; exchanged = new % 2 == 1 }

-- the same of all gates
abbrev pub gates_recorded : List ℕ → List ℕ → List MappedGate
gates_recorded variables new_places = zip2 gate_recorded variables new_places
