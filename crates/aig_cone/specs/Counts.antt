-- How many inputs, latches and gates a set has.
use Rattle.std.specs.Prelude.{ℕ, List, count_by}
use Rattle.std.specs.Ordering.{nat_cmp}
use Rattle.std.specs.FinSet as set
use Rattle.aig_circuit.specs.declared.circuit.Latch.{Latch}
use Rattle.aig_circuit.specs.declared.circuit.Gate.{Gate}

abbrev pub inputs_in : set.FinSet nat_cmp → List ℕ → ℕ
inputs_in variables inputs = count_by (set.contains variables) inputs

abbrev pub latches_in : set.FinSet nat_cmp → List Latch → ℕ
latches_in variables latches = count_by (λ (l : Latch). set.contains variables l.var) latches

abbrev pub gates_in : set.FinSet nat_cmp → List Gate → ℕ
gates_in variables gates = count_by (λ (g : Gate). set.contains variables g.var) gates
