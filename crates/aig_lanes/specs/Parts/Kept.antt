-- The literals that are put for a step, side by side.
use Rattle.std.specs.Prelude.{◌++◌, ℕ, List, [], map}
use Rattle.aig_circuit.specs.declared.circuit.Circuit.{Circuit}
use Rattle.aig_circuit.specs.declared.circuit.Latch.{Latch}
use Rattle.aig_circuit.specs.declared.circuit.Reset.{Reset}
use Rattle.aig_circuit.specs.declared.circuit.Reset.TheVariants as resets
use Rattle.aig_meaning.specs.Meaning.{next_literals}
use Rattle.aig_step.specs.declared.trace.Columns.{Columns}
use Rattle.aig_step.specs.declared.trace.Columns.TheVariants.{Plain, Properties}

-- of bad states or constraints, what is asked for
abbrev pub asked : {A : Type 0} → Columns → List A → List A
asked Plain xs = []
asked Properties xs = xs

-- what a step shows beside states, side by side
abbrev pub seen : {A : Type 0} → Columns → (outputs bad constraints : List A) → List A
seen columns outputs bad constraints = outputs ++ (asked columns bad ++ asked columns constraints)

-- the literal that has the value of a reset, where variable 0 is 0 and variable 1 is x
abbrev pub reset_literal : Reset → ℕ
reset_literal resets.Zero = 0
reset_literal resets.One = 1
reset_literal resets.Uninit = 2

abbrev pub reset_literals : List Latch → List ℕ
reset_literals latches = map (λ (l : Latch). reset_literal l.reset) latches

-- the literals that are put for a step: what it shows beside states, and the state after it
abbrev pub step_literals : Columns → Circuit → List ℕ
step_literals columns c = seen columns c.outputs c.bad c.constraints ++ next_literals c
