-- The depth of a circuit: how many gates stand on its longest path.
use Rattle.std.specs.Prelude.{◌≡◌, ◌≤◌, ◌⊎◌, ℕ, List, [], ◌∷◌, length}
use Rattle.std.specs.List.{Contains}
use Rattle.aig_circuit.specs.declared.circuit.Gate.{Gate}
use Rattle.aig_circuit.specs.declared.circuit.Circuit.{Circuit}
use Rattle.aig_circuit.specs.Literal.{variable_of}

-- The gates are a path from a variable: the first of them defines it, and each other one the variable of an operand of
-- the gate before it.
abbrev pub IsPath : List Gate → ℕ → List Gate → Type 0
IsPath gates v [] = Unit {0}
IsPath gates v (g ∷ path) = Contains gates g × (g.var ≡ v)
    × (IsPath gates (variable_of g.left) path ⊎ IsPath gates (variable_of g.right) path)

-- the longest path of a circuit has so many gates
pub record IsDepth (c : Circuit) (depth : ℕ) : Type 0 where
  pub from : ℕ
  pub path : List Gate
  pub is_path : IsPath c.gates from path
  pub size : length path ≡ depth
  pub longest : (v : ℕ) (other : List Gate) → IsPath c.gates v other → length other ≤ depth
