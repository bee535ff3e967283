-- Whether the places that a block tells are the order in which the gates of its source are taken, by the image alone.
use Rattle.std.specs.Prelude.{◌-◌, ◌<◌, ◌≤◌, ℕ, suc, List, length, slice_index_or}
use Rattle.aig_circuit.specs.declared.circuit.Gate.{Gate}
use Rattle.aig_circuit.specs.Literal.{variable_of}
use Rattle.aig_image.specs.Reordered.{positions_of}
use Rattle.aig_map.specs.declared.map_block.MappedGate.{MappedGate}
use Rattle.aig_map.specs.Undone.{places_recorded}

-- the positions in the source, place by place
abbrev pub positions : List MappedGate → List ℕ
positions gates = positions_of (places_recorded gates)

-- The first place that a gate of the image may have, where the first gate has this variable: the one after the gate
-- that its larger operand is over, or 0 where that is over none.
abbrev pub ready_from : ℕ → Gate → ℕ
ready_from first g = suc (variable_of g.left) - first

abbrev pub ready_at : ℕ → List Gate → ℕ → ℕ
ready_at first gates place = ready_from first (slice_index_or gates place (record { var = 0; left = 0; right = 0 }))

-- the gate at each place comes first in the source of all that may have this place
abbrev pub AreTakenInTurn : ℕ → List Gate → List ℕ → Type 0
AreTakenInTurn first gates places =
    (p q : ℕ) → q < length gates → p ≤ q → ready_at first gates q ≤ p
    → slice_index_or places p 0 ≤ slice_index_or places q 0

-- from this place on, up to another one, no position is above the one there
abbrev pub IsClear : List ℕ → ℕ → ℕ → Type 0
IsClear places from to = (p : ℕ) → from ≤ p → p < to → slice_index_or places p 0 ≤ slice_index_or places to 0

-- each place has a link: a place from which on up to it no position is above the one there
abbrev pub AreLinks : List ℕ → List ℕ → Type 0
AreLinks places links =
    (j : ℕ) → j < length links → (slice_index_or links j 0 ≤ j) × IsClear places (slice_index_or links j 0) j
