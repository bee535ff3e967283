-- Entries that stand after those that they use.
use Rattle.std.specs.Prelude.{ℕ, List, [], ◌∷◌, ◌++◌, ◌&&◌, Bool, true, map}
use Rattle.std.specs.Option.{is_none}
use Rattle.std.specs.Ordering.{nat_cmp}
use Rattle.std.specs.FinSet as set
use Rattle.aig_circuit.specs.declared.circuit.Circuit.{Circuit}
use Rattle.aig_circuit.specs.declared.circuit.Latch.{Latch}
use Rattle.aig_circuit.specs.declared.circuit.Gate.{Gate}
use Rattle.aig_circuit.specs.Wellformed.{operands}
use Rattle.aig_core.specs.Fault.{first_unknown, with_all}

-- each entry uses constants, and variables that were defined before or that an earlier entry defines
abbrev pub are_in_order : {T : Type 0} → (T → List ℕ) → (T → List ℕ) → set.FinSet nat_cmp → List T → Bool
are_in_order defined used before [] = true
are_in_order defined used before (x ∷ xs) =
    is_none (first_unknown before (used x)) && are_in_order defined used (with_all before (defined x)) xs

-- each gate stands after those that it uses, and uses nothing else but constants, inputs and latches
abbrev pub has_gates_in_order : Circuit → Bool
has_gates_in_order c = are_in_order (λ (g : Gate). g.var ∷ []) operands
    (with_all set.empty (c.inputs ++ map (λ (l : Latch). l.var) c.latches)) c.gates
