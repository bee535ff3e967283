-- The order in which gates are taken: each time the least gate whose operands are all taken.
use Rattle.std.specs.Prelude.{ℕ, zero, suc, ◌==◌, ◌*◌, ◌<◌, ◌≤◌, List, [], ◌∷◌, ◌++◌, Bool, false, not, Option, map}
use Rattle.std.specs.Prelude.{length, slice_index_or}
use Rattle.std.specs.List.{AllByRecursion, position, flat_map, count_by, list_any, list_all, find}
use Rattle.std.specs.Option.{option_to_list, option_map}
use Rattle.aig_circuit.specs.declared.circuit.Gate.{Gate}
use Rattle.aig_circuit.specs.declared.circuit.Circuit.{Circuit}
use Rattle.aig_circuit.specs.Literal.{variable_of}
use Rattle.aig_circuit.specs.Wellformed.{IsAmong}

-- the position of the gate that defines the variable, where one does
abbrev pub gate_of : List Gate → ℕ → Option ℕ
gate_of gates variable = position (λ (g : Gate). g.var == variable) gates

-- the positions of the gates that a gate's operands are over, the left operand's first
abbrev pub gates_under : List Gate → Gate → List ℕ
gates_under gates g = option_to_list (gate_of gates (variable_of g.left))
    ++ option_to_list (gate_of gates (variable_of g.right))

-- the same, by the gate's position
abbrev pub gate_operands : List Gate → ℕ → List ℕ
gate_operands gates gate = slice_index_or (map (gates_under gates) gates) gate []

-- of so many gates, one that may be taken next: it is not taken, and all that it needs are
pub record IsReady (count : ℕ) (needs : ℕ → List ℕ) (taken : List ℕ) (gate : ℕ) : Type 0 where
  pub there : gate < count
  pub left : ¬ IsAmong gate taken
  pub served : AllByRecursion (λ h. IsAmong h taken) (needs gate)

-- each gate of the list is the least that is ready once those before it are taken
abbrev pub TakesLeast : ℕ → (ℕ → List ℕ) → List ℕ → List ℕ → Type 0
TakesLeast count needs taken [] = Unit {0}
TakesLeast count needs taken (g ∷ gs) = IsReady count needs taken g × ((h : ℕ) → IsReady count needs taken h → g ≤ h)
    × TakesLeast count needs (g ∷ taken) gs

-- a gate that needs only listed ones is listed, so none can be added
abbrev pub IsFull : ℕ → (ℕ → List ℕ) → List ℕ → Type 0
IsFull count needs list = (g : ℕ) → g < count → AllByRecursion (λ h. IsAmong h list) (needs g) → IsAmong g list

pub record IsLeastReadyOrder (c : Circuit) (list : List ℕ) : Type 0 where
  pub in_turn : TakesLeast (length c.gates) (gate_operands c.gates) [] list
  pub full : IsFull (length c.gates) (gate_operands c.gates) list

-- how many operands, left and right of every gate, are over the variable of a listed gate
abbrev pub operands_over : Circuit → List ℕ → ℕ
operands_over c list = count_by (λ h. list_any (λ g. g == h) list) (flat_map (gates_under c.gates) c.gates)

-- how many of the gates that a gate needs are not listed
abbrev pub left_over : List ℕ → List ℕ → ℕ
left_over list needs = count_by (λ h. not (list_any (λ g. g == h) list)) needs

-- following operands from gate to gate comes to an end within so many gates
unfoldable pub ends_within : ℕ → List Gate → ℕ → Bool
ends_within zero gates gate = false
ends_within (suc n) gates gate = list_all (ends_within n gates) (gate_operands gates gate)

-- A gate depends on a cycle where following its operands comes to no end. What ends at all ends within as many gates as
-- there are.
abbrev pub depends_on_cycle : List Gate → Gate → Bool
depends_on_cycle gates g = not (list_all (ends_within (length gates) gates) (gates_under gates g))

-- the literal of the first such gate, in the order of the file
abbrev pub first_cyclic : List Gate → Option ℕ
first_cyclic gates = option_map (λ (g : Gate). 2 * g.var) (find (depends_on_cycle gates) gates)
