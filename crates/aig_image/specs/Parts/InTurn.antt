-- Gates that are made with new numbers in one go: each where its turn comes, over what was numbered before it.
use Rattle.std.specs.Prelude.{◌≡◌, ◌+◌, ◌<◌, ◌≤◌, ◌⊎◌, ℕ, List, ◌++◌, length, map, Option, None, Some}
use Rattle.std.specs.List.{AllByRecursion}
use Rattle.aig_circuit.specs.Literal.{variable_of}
use Rattle.aig_circuit.specs.Wellformed.{AreDistinct}
use Rattle.aig_circuit.specs.declared.circuit.TheConstants.{LARGEST}
use Rattle.aig_circuit.specs.declared.circuit.Gate.{Gate}
use Rattle.aig_circuit.specs.declared.circuit.Circuit.{Circuit}
use Rattle.aig_topo.specs.Order.{IsLeastReadyOrder}
use Rattle.aig_image.specs.declared.in_turn.InTurn.{InTurn}
use Rattle.aig_image.specs.declared.in_turn.KeptNumbers.{KeptNumbers}
use Rattle.aig_image.specs.declared.numbers.Numbers.{Numbers}
use Rattle.aig_image.specs.Parts.InOrder.{StandInOrder}
use Rattle.aig_image.specs.declared.ranked.VariableRanks.{VariableRanks}
use Rattle.aig_image.specs.Parts.Numbers.{number_of, number_in, HaveNumbers}
use Rattle.aig_image.specs.Parts.Ranked.{rank_label}
use Rattle.aig_image.specs.Relabelled.{relabelled_gate, relabelled_literal}
use Rattle.aig_image.specs.Renumbering.{in_new_order, renumbered}
use Rattle.aig_image.specs.Reordered.{operands_sorted, taken}

-- a literal is a constant, or its variable has a number
abbrev pub HasNumber : Numbers → ℕ → Type 0
HasNumber n literal = (variable_of literal ≡ 0) ⊎ (0 < number_of n (variable_of literal))

-- a gate by other variables, the larger operand first
abbrev pub numbered_gate : (ℕ → ℕ) → Gate → Gate
numbered_gate f g = operands_sorted (relabelled_gate f g)

-- the same by the numbers that there are, where the gate's variable gets the next one
abbrev pub next_numbered : Numbers → Gate → Gate
next_numbered n g = operands_sorted (record {
  var = n.noted + 1;
  left = relabelled_literal (number_of n) g.left;
  right = relabelled_literal (number_of n) g.right;
})

-- the gates define other variables than those before, each once, and none of them is the constant
pub record DefineApart (before : List ℕ) (gates : List Gate) : Type 0 where
  pub few : length before + length gates ≤ LARGEST
  pub once : AreDistinct (before ++ map (λ (g : Gate). g.var) gates)
  pub some : AllByRecursion (λ v. 1 ≤ v) (before ++ map (λ (g : Gate). g.var) gates)

-- the gates of the image are made of gates that stand in order, and their variables have numbers after these
pub record AreMadeOf (before : List ℕ) (gates news : List Gate) (n : Numbers) : Type 0 where
  pub numbers : HaveNumbers n (before ++ map (λ (g : Gate). g.var) gates)
  pub in_order : StandInOrder before gates
  pub made : news ≡ map (numbered_gate (renumbered (before ++ map (λ (g : Gate). g.var) gates))) gates

-- what a number is kept by: the variable, or its rank where there are ranks
abbrev pub kept_by : Option VariableRanks → ℕ → ℕ
kept_by None v = v
kept_by (Some r) v = rank_label r.ranks v

-- the number of a variable, 0 where it has none
abbrev pub new_number : KeptNumbers → ℕ → ℕ
new_number n v = number_of n.numbers (kept_by n.ranks v)

-- gates and numbers as above, whatever the numbers are kept by
pub record AreMadeInTurn (before : List ℕ) (gates news : List Gate) (n : KeptNumbers) : Type 0 where
  pub count : n.numbers.noted ≡ length (before ++ map (λ (g : Gate). g.var) gates)
  pub numbers : (v : ℕ) → new_number n v ≡ number_in (before ++ map (λ (g : Gate). g.var) gates) v
  pub in_order : StandInOrder before gates
  pub made : news ≡ map (numbered_gate (renumbered (before ++ map (λ (g : Gate). g.var) gates))) gates

-- the gates of the circuit's image, and the numbers of its variables
pub record IsMadeInTurn (c : Circuit) (m : InTurn) : Type 0 where
  pub order : List ℕ
  pub least : IsLeastReadyOrder c order
  pub count : m.numbers.numbers.noted ≡ length (in_new_order c order)
  pub numbers : (v : ℕ) → new_number m.numbers v ≡ number_in (in_new_order c order) v
  pub gates : m.gates.items ≡ map (numbered_gate (renumbered (in_new_order c order))) (taken c.gates order)
