-- What a block may tell wrongly even where its places are right: an exchange that changes nothing, and that there was
-- no comment section where a comment follows.
use Rattle.std.specs.Prelude.{◌≡◌, ◌≢◌, ◌⊎◌, ◌<◌, ℕ, List, [], Bool, false, true, length, slice_index_or}
use Rattle.std.specs.List.{AllByRecursion}
use Rattle.aig_circuit.specs.declared.circuit.Gate.{Gate}
use Rattle.aig_map.specs.declared.map_block.MappedGate.{MappedGate}
use Rattle.aig_map.specs.declared.map_block.MapBlock.{MapBlock}
use Rattle.aig_circuit.specs.declared.circuit.Circuit.{Circuit}
use Rattle.aig_image.specs.Renumbering.{source_variable}
use Rattle.aig_map.specs.Parts.Had.{gates_there}
use Rattle.aig_map.specs.Undone.{exchanges_recorded, source_variables}

-- the gate has two operands
abbrev pub HasTwoOperands : Gate → Type 0
HasTwoOperands g = g.left ≢ g.right

-- the gate that stands at a place
abbrev pub gate_in_place : List Gate → ℕ → Gate
gate_in_place gates place = slice_index_or gates place (record { var = 0; left = 0; right = 0 })

-- no gate with equal operands is recorded as exchanged
abbrev pub TellsExchanges : List Gate → List MappedGate → Type 0
TellsExchanges image_gates recorded =
    AllByRecursion (λ (m : MappedGate). m.exchanged ≡ true → HasTwoOperands (gate_in_place image_gates m.place))
    recorded

-- no gate of a list with equal operands is exchanged by these flags
abbrev pub DifferWhereExchanged : List Gate → List Bool → Type 0
DifferWhereExchanged gates flags =
    (i : ℕ) → i < length flags → slice_index_or flags i false ≡ true → HasTwoOperands (gate_in_place gates i)

-- no gate with equal operands is recorded as exchanged, by the variables of the source
abbrev pub ExchangesDiffer : MapBlock → Circuit → Type 0
ExchangesDiffer b x =
    DifferWhereExchanged (gates_there (source_variable (source_variables b)) x.gates b.gates)
    (exchanges_recorded b.gates)

-- nothing follows where it is told that there was no comment section
abbrev pub TellsComment : Bool → List ℕ → Type 0
TellsComment has_comment rest = (has_comment ≡ true) ⊎ (rest ≡ [])
