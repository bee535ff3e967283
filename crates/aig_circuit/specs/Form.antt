-- What can be seen of a circuit part by part, before its definitions and uses are looked at together (this project's
-- profile).
use Rattle.std.specs.Prelude.{ℕ, List, [], ◌∷◌, ◌+◌, ◌*◌, ◌≤◌}
use Rattle.std.specs.List.{All, AllByRecursion}
use Rattle.aig_circuit.specs.declared.circuit.Circuit.{Circuit}
use Rattle.aig_circuit.specs.declared.circuit.Latch.{Latch}
use Rattle.aig_circuit.specs.declared.circuit.Gate.{Gate}
use Rattle.aig_circuit.specs.Wellformed.{IsWithinLimits, IsVariableUpTo, HasGoodSymbols}
use Rattle.aig_circuit.specs.Wellformed.{defined_variables, used_literals}
use Rattle.aig_circuit.specs.Wellformed.{literal_lists, operands}

-- a literal that a circuit with this largest index may use
abbrev pub IsLiteralUpTo : ℕ → ℕ → Type 0
IsLiteralUpTo max_var literal = literal ≤ 2 * max_var + 1

-- variables that a circuit with this largest index may define, and literals that it may use
abbrev pub AreInRange : ℕ → List ℕ → List ℕ → Type 0
AreInRange max_var variables literals =
    AllByRecursion (IsVariableUpTo max_var) variables × AllByRecursion (IsLiteralUpTo max_var) literals

-- what each entry defines and uses is in range
pub record HasEntriesInRange (c : Circuit) : Type 0 where
  pub inputs : All (λ v. AreInRange c.max_var (v ∷ []) []) c.inputs
  pub latches : All (λ (l : Latch). AreInRange c.max_var (l.var ∷ []) (l.next ∷ [])) c.latches
  pub literals : AllByRecursion (AllByRecursion (IsLiteralUpTo c.max_var)) (literal_lists c)
  pub gates : All (λ (g : Gate). AreInRange c.max_var (g.var ∷ []) (operands g)) c.gates

pub record IsInForm (c : Circuit) : Type 0 where
  pub limits : IsWithinLimits c
  pub variables : AllByRecursion (IsVariableUpTo c.max_var) (defined_variables c)
  pub literals : AllByRecursion (IsLiteralUpTo c.max_var) (used_literals c)
  pub symbols : HasGoodSymbols c
