-- Circuits in binary order (AIGER report): inputs are the first variables, latches the next ones, and gates the others,
-- each over lower ones, with the larger operand first.
use Rattle.std.specs.Prelude.{◌≡◌, ◌+◌, ◌<◌, ◌≤◌, ℕ, suc, List, [], ◌∷◌, map, length}
use Rattle.std.specs.List.{range_with_len}
use Rattle.aig_circuit.specs.declared.circuit.Latch.{Latch}
use Rattle.aig_circuit.specs.declared.circuit.Gate.{Gate}
use Rattle.aig_circuit.specs.declared.circuit.Circuit.{Circuit}
use Rattle.aig_circuit.specs.Literal.{literal_of}

-- each gate defines the next variable, is over a lower literal, and its second operand is not above the first
abbrev pub AreOrderedGates : ℕ → List Gate → Type 0
AreOrderedGates variable [] = Unit {0}
AreOrderedGates variable (g ∷ gs) =
    (g.var ≡ variable) × (g.left < literal_of g.var) × (g.right ≤ g.left) × AreOrderedGates (suc variable) gs

pub record IsInBinaryOrder (c : Circuit) : Type 0 where
  pub inputs : c.inputs ≡ range_with_len 1 (length c.inputs)
  pub latches : map (λ (l : Latch). l.var) c.latches ≡ range_with_len (1 + length c.inputs) (length c.latches)
  pub gates : AreOrderedGates (1 + length c.inputs + length c.latches) c.gates
  pub all : c.max_var ≡ length c.inputs + length c.latches + length c.gates

-- each gate defines the next variable and is over lower literals
abbrev pub AreNumberedGates : ℕ → List Gate → Type 0
AreNumberedGates variable [] = Unit {0}
AreNumberedGates variable (g ∷ gs) =
    (g.var ≡ variable) × (g.left < literal_of g.var) × (g.right < literal_of g.var) × AreNumberedGates (suc variable) gs

-- A circuit that is in binary order, but for gates whose larger operand comes second (this project's profile).
pub record IsNumberedInOrder (c : Circuit) : Type 0 where
  pub inputs : c.inputs ≡ range_with_len 1 (length c.inputs)
  pub latches : map (λ (l : Latch). l.var) c.latches ≡ range_with_len (1 + length c.inputs) (length c.latches)
  pub gates : AreNumberedGates (1 + length c.inputs + length c.latches) c.gates
  pub all : c.max_var ≡ length c.inputs + length c.latches + length c.gates
