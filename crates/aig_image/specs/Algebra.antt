-- What the definitions of relabelled and reordered circuits say of one another.
use Rattle.std.specs.Prelude.{◌≡◌, ◌<◌, ◌≤◌, ℕ, List, Bool, Option, map, length}
use Rattle.std.specs.List.{AllByRecursion}
use Rattle.aig_circuit.specs.declared.circuit.Circuit.{Circuit}
use Rattle.aig_circuit.specs.declared.circuit.TheConstants.{LARGEST}
use Rattle.aig_circuit.specs.Wellformed.{AreDistinct, IsVariableUpTo, IsWellFormed, defined_variables}
use Rattle.aig_image.specs.Relabelled.{relabelled, relabelled_gate, NamesOnly}
use Rattle.aig_image.specs.Reordered.{reordered, operands_sorted, has_smaller_first, with_operands_exchanged}
use Rattle.aig_image.specs.Reordered.{converted, restored, ArePlaces, positions_of}

-- two relabellings, one after the other, are one
abbrev pub RelabellingsCompose : Type 0
RelabellingsCompose = (f g : ℕ → ℕ) (c : Circuit) → relabelled g (relabelled f c) ≡ relabelled (λ v. g (f v)) c

-- where each variable that is named keeps its name, the circuit stays as it is
abbrev pub NamesKeptKeepAll : Type 0
NamesKeptKeepAll = (f : ℕ → ℕ) (c : Circuit) → NamesOnly (λ v. f v ≡ v) c → relabelled f c ≡ c

-- gates are relabelled and taken in an order in either turn
abbrev pub OrderCommutes : Type 0
OrderCommutes = (f : ℕ → ℕ) (order : List ℕ) (c : Circuit) → f 0 ≡ 0
    → relabelled f (reordered order c) ≡ reordered order (relabelled f c)

-- What was converted is restored by the way back of the variables, the places of the gates, and what sorting exchanged.
abbrev pub ConvertedIsRestored : Type 0
ConvertedIsRestored = (f g : ℕ → ℕ) (order places : List ℕ) (c : Circuit)
    → f 0 ≡ 0 → NamesOnly (λ v. g (f v) ≡ v) c → ArePlaces order places (length c.gates)
    → restored g places (map (λ h. has_smaller_first (relabelled_gate f h)) c.gates) (converted f order c) ≡ c

-- What was restored is converted to what it was restored from, where that has the larger operand of each gate first.
abbrev pub RestoredIsConverted : Type 0
RestoredIsConverted = (f g : ℕ → ℕ) (order places : List ℕ) (flags : List Bool) (x : Circuit)
    → f (g 0) ≡ 0 → NamesOnly (λ v. f (g v) ≡ v) x → ArePlaces places order (length x.gates)
    → map operands_sorted x.gates ≡ x.gates
    → converted f order (restored g places flags x) ≡ x

-- A well-formed circuit stays well formed by other variables from which there is a way back, whatever its comment.
abbrev pub FormIsKept : Type 0
FormIsKept = (f g : ℕ → ℕ) (max_var : ℕ) (comment : Option (List ℕ)) (c : Circuit) → IsWellFormed c
    → f 0 ≡ 0 → NamesOnly (λ v. g (f v) ≡ v) c → max_var ≤ LARGEST
    → AllByRecursion (λ v. IsVariableUpTo max_var (f v)) (defined_variables c)
    → IsWellFormed (record (relabelled f c) { max_var = max_var; comment = comment })

-- so it does with its gates in another order
abbrev pub OrderKeepsForm : Type 0
OrderKeepsForm = (order places : List ℕ) (c : Circuit)
    → ArePlaces order places (length c.gates) → ArePlaces places order (length c.gates)
    → IsWellFormed c → IsWellFormed (reordered order c)

-- and with operands exchanged
abbrev pub ExchangeKeepsForm : Type 0
ExchangeKeepsForm = (flags : List Bool) (c : Circuit) → IsWellFormed c → IsWellFormed (with_operands_exchanged flags c)

-- distinct places below their count are each that of one position, and the other way about
abbrev pub PlacesHavePositions : Type 0
PlacesHavePositions = (places : List ℕ) → AreDistinct places → AllByRecursion (λ place. place < length places) places
    → ArePlaces (positions_of places) places (length places) × ArePlaces places (positions_of places) (length places)
