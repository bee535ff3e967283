-- The new numbers of gates by their positions.
use Rattle.std.specs.Prelude.{ℕ, List, length}
use Rattle.aig_circuit.specs.declared.circuit.Circuit.{Circuit}
use Rattle.aig_image.specs.Parts.Numbers.{first_variables}
use Rattle.aig_image.specs.Parts.Placed.{FollowOn}
use Rattle.aig_topo.specs.Order.{IsLeastReadyOrder}

-- by its position, each gate has the number of its place in the least ready order, after those of inputs and latches
pub record AreGateNumbers (c : Circuit) (numbers : List ℕ) : Type 0 where
  pub order : List ℕ
  pub least : IsLeastReadyOrder c order
  pub follow : FollowOn (length (first_variables c)) order numbers
