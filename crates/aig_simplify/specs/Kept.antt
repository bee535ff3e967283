-- What stays of a circuit beside what its rows show: how many there are of each kind, names, and the values of justice
-- properties and fairness constraints.
use Rattle.std.specs.Prelude.{◌≡◌, ℕ, List, map}
use Rattle.aig_circuit.specs.declared.circuit.Circuit.{Circuit}
use Rattle.aig_circuit.specs.declared.circuit.Kind.{Kind}
use Rattle.aig_circuit.specs.declared.value.Val.{Val}
use Rattle.aig_circuit.specs.Wellformed.{count_of}
use Rattle.aig_meaning.specs.Meaning.{IsStepAssignment, literal_value}

-- as many inputs, latches and so on, justice properties of the same sizes, the same symbols, which so name the same
-- places, and the same comment
pub record KeepsNames (c d : Circuit) : Type 0 where
  pub counts : (k : Kind) → count_of d k ≡ count_of c k
  pub sizes : d.justice.sizes ≡ c.justice.sizes
  pub symbols : d.symbols ≡ c.symbols
  pub comment : d.comment ≡ c.comment

-- in each step from the same state by the same inputs these literals have the same values, one by one
abbrev pub HaveSameValues : (Circuit → List ℕ) → Circuit → Circuit → Type 0
HaveSameValues literals c d = (state given : List Val) (a b : ℕ → Val) → IsStepAssignment c state given a
    → IsStepAssignment d state given b → map (literal_value b) (literals d) ≡ map (literal_value a) (literals c)

-- so the literals of justice properties do, and the fairness constraints
pub record KeepsGoals (c d : Circuit) : Type 0 where
  pub justice : HaveSameValues (λ (e : Circuit). e.justice.literals) c d
  pub fairness : HaveSameValues (λ (e : Circuit). e.fairness) c d
