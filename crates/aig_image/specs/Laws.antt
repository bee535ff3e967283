-- What the definitions of this crate say of one another.
use Rattle.std.specs.Prelude.{◌≡◌, ◌↔◌, ◌+◌, ℕ, List, length}
use Rattle.std.specs.List.{range_with_len}
use Rattle.aig_circuit.specs.declared.circuit.Circuit.{Circuit}
use Rattle.aig_circuit.specs.declared.value.Val.{Val}
use Rattle.aig_circuit.specs.Wellformed.{IsAmong, IsVariableUpTo, IsWellFormed, defined_variables}
use Rattle.aig_topo.specs.Order.{IsLeastReadyOrder}
use Rattle.aig_checked.specs.BinaryOrder.{IsInBinaryOrder}
use Rattle.aig_meaning.specs.Meaning.{IsStepAssignment, MeansTheSame, Row}
use Rattle.aig_meaning.specs.Trace.{IsTrace}
use Rattle.aig_image.specs.Renumbering.{in_new_order, renumbered}
use Rattle.aig_image.specs.Renamed.{IsRenamed}
use Rattle.aig_image.specs.Image.{IsBinaryImage, image_by}

-- the variables get numbers from 1 up to the count, each another one, and each number is that of a variable
pub record IsOneToOneOnto (number : ℕ → ℕ) (variables : List ℕ) (count : ℕ) : Type 0 where
  pub within : (v : ℕ) → IsAmong v variables → IsVariableUpTo count (number v)
  pub apart : (v w : ℕ) → IsAmong v variables → IsAmong w variables → number v ≡ number w → v ≡ w
  pub reached : (n : ℕ) → IsVariableUpTo count n → (v : ℕ) × IsAmong v variables × (number v ≡ n)

-- Renumbering is one to one from the variables that a well-formed circuit defines onto 1 up to the count of its inputs,
-- latches and gates.
abbrev pub RenumberingIsOneToOne : Type 0
RenumberingIsOneToOne = (c : Circuit) (order : List ℕ) → IsWellFormed c → IsLeastReadyOrder c order
    → IsOneToOneOnto (renumbered (in_new_order c order)) (defined_variables c)
    (length c.inputs + length c.latches + length c.gates)

-- the least ready order of a circuit in binary order is 0, 1, 2 and so on
abbrev pub OrderedGatesAreTakenAsTheyStand : Type 0
OrderedGatesAreTakenAsTheyStand =
    (c : Circuit) → IsInBinaryOrder c → IsLeastReadyOrder c (range_with_len 0 (length c.gates))

-- the image of a well-formed circuit is well formed and in binary order
abbrev pub ImageIsOrdered : Type 0
ImageIsOrdered =
    (c image : Circuit) → IsWellFormed c → IsBinaryImage c image → IsWellFormed image × IsInBinaryOrder image

-- a well-formed circuit has exactly one image
abbrev pub ImageIsOne : Type 0
ImageIsOne =
    (c : Circuit) → IsWellFormed c → (image : Circuit) × IsBinaryImage
    c image × ((other : Circuit) → IsBinaryImage c other → other ≡ image)

-- a well-formed circuit in binary order is its own image
abbrev pub OrderedIsItsOwnImage : Type 0
OrderedIsItsOwnImage = (c : Circuit) → IsWellFormed c → IsInBinaryOrder c → IsBinaryImage c c

-- a circuit by other variables, its gates in another order and their operands in either, means the same
abbrev pub RenamedMeansTheSame : Type 0
RenamedMeansTheSame = (f : ℕ → ℕ) (c d : Circuit) → IsRenamed f c d → IsWellFormed c → IsWellFormed d
    → MeansTheSame c d

-- values of the variables of the image are, by the numbers that the circuit's variables got, values of those
abbrev pub ImageAssignsTheSame : Type 0
ImageAssignsTheSame = (c : Circuit) (order : List ℕ) (state given : List Val) (a : ℕ → Val)
    → IsWellFormed c → IsLeastReadyOrder c order → IsStepAssignment (image_by order c) state given a
    → IsStepAssignment c state given (λ v. a (renumbered (in_new_order c order) v))

-- the image of a well-formed circuit means the same as the circuit
abbrev pub ImageMeansTheSame : Type 0
ImageMeansTheSame = (c image : Circuit) → IsWellFormed c → IsBinaryImage c image → MeansTheSame c image

-- so it has exactly the circuit's traces
abbrev pub ImageKeepsTraces : Type 0
ImageKeepsTraces = (c image : Circuit) → IsWellFormed c → IsBinaryImage c image
    → (first : List Val) (vectors : List (List Val)) (rows : List Row)
    → IsTrace c first vectors rows ↔ IsTrace image first vectors rows
