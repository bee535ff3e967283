-- What gates need: the gates that their operands are over. A link is one more than a position, or 0 for none.
use Rattle.std.specs.Prelude.{ℕ, zero, suc, ◌<◌, List, [], ◌∷◌, ◌++◌, map, length, slice_index_or}
use Rattle.std.specs.List.{AllByRecursion}
use Rattle.aig_circuit.specs.declared.circuit.Gate.{Gate}
use Rattle.aig_topo.specs.declared.operands.Needs.{Needs}
use Rattle.aig_circuit.specs.Literal.{variable_of}
use Rattle.aig_tables.specs.VarMap.{link_to}
use Rattle.aig_topo.specs.Order.{gate_of}

-- the position that a link stands for
abbrev pub linked : ℕ → List ℕ
linked zero = []
linked (suc position) = position ∷ []

abbrev pub needs_of : List Gate → Gate → Needs
needs_of gates g = record {
  left = link_to (gate_of gates (variable_of g.left));
  right = link_to (gate_of gates (variable_of g.right));
}

-- the positions of the gates that are needed, the left operand's first
abbrev pub under : Needs → List ℕ
under needs = linked needs.left ++ linked needs.right

-- how many they are
abbrev pub how_many : Needs → ℕ
how_many needs = length (under needs)

abbrev pub no_needs : Needs
no_needs = record { left = 0; right = 0 }

-- what the gate of a position needs
abbrev pub needs_at : List Needs → ℕ → List ℕ
needs_at all gate = slice_index_or (map under all) gate []

-- each gate that is needed is there
abbrev pub AreThere : List Needs → Type 0
AreThere all = (gate : ℕ) → AllByRecursion (λ h. h < length all) (needs_at all gate)
