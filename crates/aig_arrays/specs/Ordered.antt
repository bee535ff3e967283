-- The binary image of a circuit, and the new number of each of its variables (this project's interface for C).
use Rattle.std.specs.Prelude.{◌≡◌, ◌++◌, ℕ, List, drop, length, map}
use Rattle.aig_circuit.specs.Wellformed.{defined_variables}
use Rattle.aig_circuit.specs.declared.circuit.Circuit.{Circuit}
use Rattle.aig_image.specs.Image.{image_by}
use Rattle.aig_image.specs.Renumbering.{in_new_order, renumbered}
use Rattle.aig_topo.specs.Order.{IsLeastReadyOrder}

-- the new number of each variable that is defined, in the order in which the circuit defines them, where the gates are
-- taken in this order
abbrev pub new_numbers : List ℕ → Circuit → List ℕ
new_numbers order c = map (renumbered (in_new_order c order)) (defined_variables c)

-- the image of a circuit, with these new numbers
pub record IsNumberedImage (c image : Circuit) (numbers : List ℕ) : Type 0 where
  pub order : List ℕ
  pub least : IsLeastReadyOrder c order
  pub is_image : image ≡ image_by order c
  pub are_numbers : numbers ≡ new_numbers order c

-- the same, where the numbers stand at the front of an array, and after them it is as it was
pub record IsNumberedImageIn (c image : Circuit) (old new : List ℕ) : Type 0 where
  pub numbers : List ℕ
  pub is_image : IsNumberedImage c image numbers
  pub at_front : new ≡ numbers ++ drop (length numbers) old
