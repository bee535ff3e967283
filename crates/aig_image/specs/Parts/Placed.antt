-- Gates that are made with new numbers by the positions of what they need.
use Rattle.std.specs.Prelude.{◌≡◌, ◌+◌, ◌*◌, ◌%◌, ◌<◌, ◌≤◌, ℕ, zero, suc, List, Option, None, Some, length, map}
use Rattle.std.specs.Prelude.{slice_index_or}
use Rattle.std.specs.FinMap.{get}
use Rattle.aig_circuit.specs.Literal.{variable_of}
use Rattle.aig_circuit.specs.declared.circuit.TheConstants.{LARGEST}
use Rattle.aig_circuit.specs.declared.circuit.Gate.{Gate}
use Rattle.aig_circuit.specs.declared.circuit.Circuit.{Circuit}
use Rattle.aig_topo.specs.Needs.{no_needs}
use Rattle.aig_topo.specs.Order.{IsLeastReadyOrder}
use Rattle.aig_topo.specs.Resolved.{IsResolved}
use Rattle.aig_image.specs.declared.placed.Placed.{Placed}
use Rattle.aig_image.specs.Parts.InTurn.{numbered_gate}
use Rattle.aig_image.specs.Parts.Numbers.{number_of, first_variables, HaveNumbers}
use Rattle.aig_image.specs.Renumbering.{in_new_order, renumbered}
use Rattle.aig_image.specs.Reordered.{operands_sorted, taken}

-- the position that a link stands for
abbrev pub unlinked : ℕ → Option ℕ
unlinked zero = None
unlinked (suc position) = Some position

-- the number of a variable that the gate of this position defines, or none
abbrev pub number_by : Placed → Option ℕ → ℕ → ℕ
number_by p None v = number_of p.first v
number_by p (Some at) v = slice_index_or p.numbers.items at 0

-- the number of a variable
abbrev pub placed_number : Placed → ℕ → ℕ
placed_number p v = number_by p (get p.resolved.index.positions v) v

-- a literal by the number of its variable
abbrev pub literal_by : Placed → Option ℕ → ℕ → ℕ
literal_by p at literal = 2 * number_by p at (variable_of literal) + literal % 2

-- the gate of a position, the larger operand first
abbrev pub gate_by : Placed → ℕ → Gate → Gate
gate_by p at g = let needs = slice_index_or p.resolved.needs.items at no_needs in operands_sorted (record {
  var = slice_index_or p.numbers.items at 0;
  left = literal_by p (unlinked needs.left) g.left;
  right = literal_by p (unlinked needs.right) g.right;
})

-- no number is too large for a literal
abbrev pub AreSmall : Placed → Type 0
AreSmall p = (at : Option ℕ) → (v : ℕ) → number_by p at v ≤ LARGEST

-- by their positions, the gates of an order have numbers that follow on so many before, and each gate is in the order
pub record FollowOn (before : ℕ) (order given : List ℕ) : Type 0 where
  pub many : length given ≡ length order
  pub there : (k : ℕ) → k < length order → slice_index_or order k 0 < length order
  pub numbers : (k : ℕ) → k < length order → slice_index_or given (slice_index_or order k 0) 0 ≡ before + (k + 1)
  pub all : (at : ℕ) → at < length order → (k : ℕ) × (k < length order) × (slice_index_or order k 0 ≡ at)

-- the numbers of a circuit's variables, where its gates are taken in this order
pub record IsPlaced (c : Circuit) (order : List ℕ) (p : Placed) : Type 0 where
  pub first : HaveNumbers p.first (first_variables c)
  pub numbers : FollowOn (length (first_variables c)) order p.numbers.items
  pub resolved : IsResolved c.gates p.resolved

-- with the gates of the circuit's image
pub record IsMadeByPlaces (c : Circuit) (p : Placed) (made : List Gate) : Type 0 where
  pub order : List ℕ
  pub least : IsLeastReadyOrder c order
  pub placed : IsPlaced c order p
  pub gates : made ≡ map (numbered_gate (renumbered (in_new_order c order))) (taken c.gates order)
