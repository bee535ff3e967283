-- A circuit with its gates in another order, and with the operands of gates exchanged (this project's profile). With
-- relabelling these make up the binary image of a circuit, and the way back.
use Rattle.std.specs.Prelude.{◌≡◌, ◌<◌, ◌==◌, ℕ, List, [], ◌∷◌, Bool, map, max, min, length, nat_lt, slice_index_or}
use Rattle.std.specs.Prelude.{if◌then◌else◌}
use Rattle.std.specs.List.{position_or_len, range_with_len}
use Rattle.aig_circuit.specs.declared.circuit.Gate.{Gate}
use Rattle.aig_circuit.specs.declared.circuit.Circuit.{Circuit}
use Rattle.aig_image.specs.Relabelled.{relabelled}

-- what stands where there is no gate
abbrev pub no_gate : Gate
no_gate = record { var = 0; left = 0; right = 0 }

-- the gates in an order of their positions
abbrev pub taken : List Gate → List ℕ → List Gate
taken gates order = map (λ at. slice_index_or gates at no_gate) order

abbrev pub reordered : List ℕ → Circuit → Circuit
reordered order c = record c { gates = taken c.gates order }

-- the larger operand first
abbrev pub operands_sorted : Gate → Gate
operands_sorted g = record { var = g.var; left = max g.left g.right; right = min g.left g.right }

abbrev pub with_operands_sorted : Circuit → Circuit
with_operands_sorted c = record c { gates = map operands_sorted c.gates }

-- sorting exchanges the operands
abbrev pub has_smaller_first : Gate → Bool
has_smaller_first g = nat_lt g.left g.right

-- the operands exchanged, if so
abbrev pub exchanged_if : Bool → Gate → Gate
exchanged_if exchanged g = record {
  var = g.var;
  left = if exchanged then g.right else g.left;
  right = if exchanged then g.left else g.right;
}

-- each gate by its flag, in step; gates without a flag stay
abbrev pub exchanged_by : List Bool → List Gate → List Gate
exchanged_by [] gates = gates
exchanged_by (e ∷ es) [] = []
exchanged_by (e ∷ es) (g ∷ gs) = exchanged_if e g ∷ exchanged_by es gs

abbrev pub with_operands_exchanged : List Bool → Circuit → Circuit
with_operands_exchanged flags c = record c { gates = exchanged_by flags c.gates }

-- other variables, the gates in this order, the larger operand of each first
abbrev pub converted : (ℕ → ℕ) → List ℕ → Circuit → Circuit
converted f order c = with_operands_sorted (reordered order (relabelled f c))

-- the gates from these places, their operands exchanged by these flags, and other variables
abbrev pub restored : (ℕ → ℕ) → List ℕ → List Bool → Circuit → Circuit
restored g places flags x = relabelled g (with_operands_exchanged flags (reordered places x))

-- where each of so many gates stands in an order: the order has the gate's position at the gate's place
abbrev pub ArePlaces : List ℕ → List ℕ → ℕ → Type 0
ArePlaces order places count = (length places ≡ count) × ((i : ℕ) → i < count
    → (slice_index_or places i 0 < length order) × (slice_index_or order (slice_index_or places i 0) 0 ≡ i))

-- place by place, the position of the first gate that has it
abbrev pub positions_of : List ℕ → List ℕ
positions_of places = map (λ place. position_or_len (λ p. p == place) places) (range_with_len 0 (length places))
