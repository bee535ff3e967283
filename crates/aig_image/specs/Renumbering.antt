-- The variables of a circuit by numbers that follow on one another (this project's profile): inputs, then latches, both
-- in the order of the file, then gates in the order in which they are taken.
use Rattle.std.specs.Prelude.{◌+◌, ◌-◌, ◌==◌, ℕ, List, ◌++◌, map, slice_index_or, if◌then◌else◌}
use Rattle.std.specs.List.{position_or_len}
use Rattle.aig_circuit.specs.declared.circuit.Latch.{Latch}
use Rattle.aig_circuit.specs.declared.circuit.Gate.{Gate}
use Rattle.aig_circuit.specs.declared.circuit.Circuit.{Circuit}
use Rattle.aig_image.specs.Reordered.{taken}

-- the variables in their new order, where the gates are taken in this one
abbrev pub in_new_order : Circuit → List ℕ → List ℕ
in_new_order c order =
    c.inputs ++ map (λ (l : Latch). l.var) c.latches ++ map (λ (g : Gate). g.var) (taken c.gates order)

-- the new number of a variable: its place in that list, counted from 1; the constant keeps 0
abbrev pub renumbered : List ℕ → ℕ → ℕ
renumbered variables v = if v == 0 then 0 else 1 + position_or_len (λ w. w == v) variables

-- the variable that had a number before, where the numbers follow on one another in this order; the constant stays
abbrev pub source_variable : List ℕ → ℕ → ℕ
source_variable variables number = if number == 0 then 0 else slice_index_or variables (number - 1) 0
