-- What is still to be asked of each gate, and a list of gates for each gate, all in one table. A link is one more than
-- a gate's position, or 0 at the end of a list.
use Rattle.std.specs.Prelude.{ℕ, zero, suc, ◌≡◌, ◌<◌, List, [], ◌∷◌, map, length, slice_index_or}
use Rattle.std.specs.List.{AllByRecursion}
use Rattle.aig_circuit.specs.declared.circuit.Gate.{Gate}
use Rattle.aig_topo.specs.declared.lists.GateNeeds.{GateNeeds}
use Rattle.aig_topo.specs.declared.lists.GateNode.{GateNode}
use Rattle.aig_topo.specs.declared.operands.Needs.{Needs}
use Rattle.aig_circuit.specs.Wellformed.{AreDistinct}
use Rattle.aig_topo.specs.Needs.{how_many, needs_of}

-- the gate after one in its list, and the first of its own list
pub record Link : Type 0 where
  pub next : ℕ
  pub first : ℕ

-- the row of a gate that needs this and was not looked at
abbrev pub row_of : Needs → GateNode
row_of needs = record { next = needs.left; rest = needs.right; first = 0 }

-- what a gate needs that was not looked at
abbrev pub needs_in_row : GateNode → Needs
needs_in_row row = record { left = row.next; right = row.rest }

-- the links of a gate
abbrev pub links_in_row : GateNode → Link
links_in_row row = record { next = row.next; first = row.first }

-- what the gates need that were not looked at
abbrev pub needs_in : List GateNode → List Needs
needs_in rows = map needs_in_row rows

-- the links of all gates
abbrev pub links_in : List GateNode → List Link
links_in rows = map links_in_row rows

abbrev pub no_link : Link
no_link = record { next = 0; first = 0 }

-- the link to the gate after this one
abbrev pub next_of : List Link → ℕ → ℕ
next_of links gate = (slice_index_or links gate no_link).next

-- the link to the first gate of this one's list
abbrev pub first_of : List Link → ℕ → ℕ
first_of links gate = (slice_index_or links gate no_link).first

-- the gates from a link on, at most so many
unfoldable pub gates_up_to : ℕ → List Link → ℕ → List ℕ
gates_up_to zero links link = []
gates_up_to (suc most) links zero = []
gates_up_to (suc most) links (suc gate) = gate ∷ gates_up_to most links (next_of links gate)

-- a gate's list
abbrev pub list_of : List Link → ℕ → List ℕ
list_of links gate = gates_up_to (length links) links (first_of links gate)

-- the same in a table of rows
abbrev pub list_in : List GateNode → ℕ → List ℕ
list_in rows gate = list_of (links_in rows) gate

-- a link leads to these gates, and then to an end
abbrev pub LeadsTo : List Link → ℕ → List ℕ → Type 0
LeadsTo links link [] = link ≡ 0
LeadsTo links link (gate ∷ gates) = (link ≡ suc gate) × LeadsTo links (next_of links gate) gates

-- each list ends, and has no gate twice
pub record AreLists (links : List Link) : Type 0 where
  pub ends : (gate : ℕ) → LeadsTo links (first_of links gate) (list_of links gate)
  pub once : (gate : ℕ) → AreDistinct (list_of links gate)
  pub below : (gate : ℕ) → AllByRecursion (λ g. g < length links) (list_of links gate)

-- what these gates need, how many each of them needs, and a list for each that is empty yet
pub record AreNeedsOf (gates : List Gate) (all : GateNeeds) : Type 0 where
  pub needs : needs_in all.lists.rows.items ≡ map (needs_of gates) gates
  pub counts : all.counts.items ≡ map how_many (needs_in all.lists.rows.items)
  pub lists : AreLists (links_in all.lists.rows.items)
  pub empty : (gate : ℕ) → list_in all.lists.rows.items gate ≡ []
