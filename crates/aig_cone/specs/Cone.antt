-- The cone of literals: the variables on which they depend (the cone of influence). A gate depends on what its operands
-- are over; over steps, a latch depends on its next state.
use Rattle.std.specs.Prelude.{◌≡◌, ◌↔◌, ℕ, List, map, IsTrue}
use Rattle.std.specs.List.{Contains}
use Rattle.std.specs.Ordering.{nat_cmp}
use Rattle.std.specs.FinSet as set
use Rattle.aig_circuit.specs.declared.circuit.Latch.{Latch}
use Rattle.aig_circuit.specs.declared.circuit.Gate.{Gate}
use Rattle.aig_circuit.specs.declared.circuit.Circuit.{Circuit}
use Rattle.aig_circuit.specs.Literal.{variable_of}
use Rattle.aig_circuit.specs.Wellformed.{IsAmong, operands}
use Rattle.aig_cone.specs.declared.search.Reach.{Reach}
use Rattle.aig_cone.specs.declared.search.Reach.TheVariants.{OneStep, AllSteps}

-- the cone goes on through latches
abbrev pub GoesThroughLatches : Reach → Type 0
GoesThroughLatches OneStep = ⊥
GoesThroughLatches AllSteps = Unit {0}

-- The variable is in the cone of these: it is one of them, or an operand of a gate in the cone is over it, or, over all
-- steps, the next state of a latch in the cone.
pub data IsInCone (reach : Reach) (c : Circuit) (roots : List ℕ) : ℕ → Type 0 where
  root : {v : ℕ} → IsAmong v roots → IsInCone reach c roots v
  operand : {g : Gate} {v : ℕ} → Contains c.gates g → IsInCone reach c roots g.var
      → IsAmong v (map variable_of (operands g)) → IsInCone reach c roots v
  next : {l : Latch} {v : ℕ} → GoesThroughLatches reach → Contains c.latches l → IsInCone reach c roots l.var
      → v ≡ variable_of l.next → IsInCone reach c roots v

-- the set has the variables on which the literals depend, and no others
abbrev pub IsConeOf : Reach → Circuit → List ℕ → set.FinSet nat_cmp → Type 0
IsConeOf reach c literals variables =
    (v : ℕ) → IsTrue (set.contains variables v) ↔ IsInCone reach c (map variable_of literals) v
