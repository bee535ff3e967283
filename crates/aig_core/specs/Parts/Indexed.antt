-- What is known of a circuit by the index of its gates, and by the set of what is defined before them.
use Rattle.std.specs.Prelude.{◌&&◌, ◌||◌, ℕ, Bool, not}
use Rattle.std.specs.List.{concat, list_all}
use Rattle.std.specs.Option.{is_some}
use Rattle.std.specs.Ordering.{nat_cmp}
use Rattle.std.specs.FinMap.{get}
use Rattle.std.specs.FinSet as set
use Rattle.aig_circuit.specs.declared.circuit.Circuit.{Circuit}
use Rattle.aig_circuit.specs.declared.circuit.Latch.{Latch}
use Rattle.aig_circuit.specs.Literal.{variable_of}
use Rattle.aig_circuit.specs.Wellformed.{literal_lists}
use Rattle.aig_core.specs.Fault.{is_known}
use Rattle.aig_topo.specs.declared.index.GateIndex.{GateIndex}

-- no gate defines the variable
abbrev pub is_no_gate : GateIndex → ℕ → Bool
is_no_gate index v = not (is_some (get index.positions v))

-- a constant, or a literal over a gate or one of the variables that are defined before gates
abbrev pub is_defined_by : set.FinSet nat_cmp → GateIndex → ℕ → Bool
is_defined_by before index literal =
    is_some (get index.positions (variable_of literal)) || is_known before literal

-- no gate defines the latch's variable, and its next literal is defined
abbrev pub is_latch_right : set.FinSet nat_cmp → GateIndex → Latch → Bool
is_latch_right before index l = is_no_gate index l.var && is_defined_by before index l.next

-- no variable of the gates is defined twice or before them, and all that is used outside of gates is defined
abbrev pub is_right_outside : set.FinSet nat_cmp → GateIndex → Circuit → Bool
is_right_outside before index c =
    index.is_once && (list_all (is_no_gate index) c.inputs && (list_all (is_latch_right before index) c.latches
    && list_all (is_defined_by before index) (concat (literal_lists c))))
