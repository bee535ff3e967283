-- New numbers of variables, as they are found, and what makes the image of a circuit by them.
use Rattle.std.specs.Prelude.{◌≡◌, ◌+◌, ◌==◌, ◌++◌, ℕ, List, None, length, map, nat_lt, if◌then◌else◌}
use Rattle.std.specs.List.{position_or_len}
use Rattle.std.specs.Option.{unwrap_or}
use Rattle.std.specs.FinMap.{get}
use Rattle.aig_circuit.specs.declared.circuit.Latch.{Latch}
use Rattle.aig_circuit.specs.declared.circuit.Gate.{Gate}
use Rattle.aig_circuit.specs.declared.circuit.Circuit.{Circuit}
use Rattle.aig_topo.specs.Order.{IsLeastReadyOrder}
use Rattle.aig_image.specs.declared.image.Renumbering.{Renumbering}
use Rattle.aig_image.specs.declared.numbers.Numbers.{Numbers}
use Rattle.aig_image.specs.Relabelled.{FitIntoLiterals}
use Rattle.aig_image.specs.Renumbering.{in_new_order}
use Rattle.aig_image.specs.Reordered.{taken}

-- the number of a variable, 0 where it has none
abbrev pub number_of : Numbers → ℕ → ℕ
number_of n v = unwrap_or (get n.numbers v) 0

-- the variables that are defined before those of gates, and the latter too, where these gates are taken
abbrev pub first_variables : Circuit → List ℕ
first_variables c = c.inputs ++ map (λ (l : Latch). l.var) c.latches

abbrev pub variables_with : Circuit → List Gate → List ℕ
variables_with c gates = first_variables c ++ map (λ (g : Gate). g.var) gates

-- the place of a variable in a list, counted from 1; 0 where it is not there
abbrev pub number_in : List ℕ → ℕ → ℕ
number_in variables v =
    if nat_lt (position_or_len (λ w. w == v) variables) (length variables)
    then 1 + position_or_len (λ w. w == v) variables else 0

-- so many variables have numbers, those of this list, and the others have none
pub record HaveNumbers (n : Numbers) (variables : List ℕ) : Type 0 where
  pub count : n.noted ≡ length variables
  pub numbers : (v : ℕ) → number_of n v ≡ number_in variables v
  pub others : (v : ℕ) → number_in variables v ≡ 0 → get n.numbers v ≡ None

-- the gates are those of the circuit in its least ready order, and the numbers those of its variables
pub record IsRenumberingOf (c : Circuit) (r : Renumbering) : Type 0 where
  pub order : List ℕ
  pub least : IsLeastReadyOrder c order
  pub gates : unwrap_or r.taken c.gates ≡ taken c.gates order
  pub numbers : HaveNumbers r.numbers (in_new_order c order)
  pub small : FitIntoLiterals (number_of r.numbers)
