-- The binary image of a circuit (this project's profile; binary order is the AIGER report's): the same circuit with new
-- numbers, its gates in the least ready order, the larger operand of each first.
use Rattle.std.specs.Prelude.{◌≡◌, ℕ, List, length}
use Rattle.aig_circuit.specs.declared.circuit.Circuit.{Circuit}
use Rattle.aig_topo.specs.Order.{IsLeastReadyOrder}
use Rattle.aig_image.specs.Reordered.{converted}
use Rattle.aig_image.specs.Renumbering.{in_new_order, renumbered}

-- the circuit with its variables numbered anew, where the gates are taken in this order
abbrev pub image_by : List ℕ → Circuit → Circuit
image_by order c = let variables = in_new_order c order in
    record (converted (renumbered variables) order c) { max_var = length variables }

-- the one circuit that is this circuit's binary image
abbrev pub IsBinaryImage : Circuit → Circuit → Type 0
IsBinaryImage c image = (order : List ℕ) × IsLeastReadyOrder c order × (image ≡ image_by order c)
