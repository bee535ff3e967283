-- Binary order, section by section: the variables of each are numbered on from the section before.
use Rattle.std.specs.Prelude.{◌≡◌, ◌+◌, ◌<◌, ◌≤◌, ℕ, suc, List, [], ◌∷◌, length}
use Rattle.aig_circuit.specs.declared.circuit.Latch.{Latch}
use Rattle.aig_circuit.specs.declared.circuit.Gate.{Gate}
use Rattle.aig_circuit.specs.declared.circuit.Circuit.{Circuit}
use Rattle.aig_circuit.specs.Literal.{literal_of}

-- each entry is right for its variable: the first for this one, and each other one for the next
abbrev pub AreNumbered : {X : Type 0} → (ℕ → X → Type 0) → ℕ → List X → Type 0
AreNumbered IsRight variable [] = Unit {0}
AreNumbered IsRight variable (x ∷ xs) = IsRight variable x × AreNumbered IsRight (suc variable) xs

-- an input, a latch, a gate that is right for this variable
abbrev pub IsInputOf : ℕ → ℕ → Type 0
IsInputOf variable input = input ≡ variable

abbrev pub IsLatchOf : ℕ → Latch → Type 0
IsLatchOf variable l = l.var ≡ variable

abbrev pub IsGateOf : ℕ → Gate → Type 0
IsGateOf variable g = (g.var ≡ variable) × (g.left < literal_of g.var) × (g.right ≤ g.left)

-- a gate that is, with its operands in one order or the other
abbrev pub IsNumberedGateOf : ℕ → Gate → Type 0
IsNumberedGateOf variable g = (g.var ≡ variable) × (g.left < literal_of g.var) × (g.right < literal_of g.var)

-- inputs, latches and then gates are all variables
pub record AreFirstInOrder (c : Circuit) : Type 0 where
  pub all : c.max_var + 1 ≡ 1 + length c.inputs + length c.latches + length c.gates
  pub inputs : AreNumbered IsInputOf 1 c.inputs
  pub latches : AreNumbered IsLatchOf (1 + length c.inputs) c.latches

pub record AreSectionsInOrder (c : Circuit) : Type 0 where
  pub first : AreFirstInOrder c
  pub gates : AreNumbered IsGateOf (1 + length c.inputs + length c.latches) c.gates

pub record AreSectionsNumbered (c : Circuit) : Type 0 where
  pub first : AreFirstInOrder c
  pub gates : AreNumbered IsNumberedGateOf (1 + length c.inputs + length c.latches) c.gates
