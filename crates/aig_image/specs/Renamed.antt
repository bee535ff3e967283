-- A circuit that is another one by other variables: its gates stand in any order, the operands of each in either order
-- (this project's profile). What the circuit means knows none of the three.
use Rattle.std.specs.Prelude.{◌≡◌, ◌⊎◌, ℕ, map}
use Rattle.std.specs.List.{Contains}
use Rattle.aig_circuit.specs.declared.circuit.Gate.{Gate}
use Rattle.aig_circuit.specs.declared.circuit.Circuit.{Circuit}
use Rattle.aig_image.specs.Relabelled.{relabelled_latch, relabelled_literal}

-- the gate's operands are these two, the one first or the other
abbrev pub HasOperands : Gate → ℕ → ℕ → Type 0
HasOperands h x y = ((h.left ≡ x) × (h.right ≡ y)) ⊎ ((h.left ≡ y) × (h.right ≡ x))

-- h is the gate g by other variables
pub record IsRenamedGate (f : ℕ → ℕ) (g h : Gate) : Type 0 where
  pub variable : h.var ≡ f g.var
  pub operands : HasOperands h (relabelled_literal f g.left) (relabelled_literal f g.right)

-- d is c where each variable v is f v; latches start as they did
pub record IsRenamed (f : ℕ → ℕ) (c d : Circuit) : Type 0 where
  pub constant : f 0 ≡ 0
  pub inputs : d.inputs ≡ map f c.inputs
  pub latches : d.latches ≡ map (relabelled_latch f) c.latches
  pub outputs : d.outputs ≡ map (relabelled_literal f) c.outputs
  pub bad : d.bad ≡ map (relabelled_literal f) c.bad
  pub constraints : d.constraints ≡ map (relabelled_literal f) c.constraints
  pub gates : (g : Gate) → Contains c.gates g → (h : Gate) × Contains d.gates h × IsRenamedGate f g h
