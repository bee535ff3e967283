-- What the definitions of this crate say of one another.
use Rattle.std.specs.Prelude.{◌≡◌, ℕ, List, Bool, map}
use Rattle.std.specs.List.{zip}
use Rattle.aig_circuit.specs.declared.circuit.Circuit.{Circuit}
use Rattle.aig_circuit.specs.Wellformed.{IsWellFormed}
use Rattle.aig_cnf.specs.Clauses.{Satisfies, bad_clauses}
use Rattle.aig_meaning.specs.Meaning.{latch_variables}
use Rattle.aig_cuts.specs.declared.cut.Cut.{Cut}
use Rattle.aig_cuts.specs.Cuts.{IsCutOf, IsKept, cut_clauses}

-- what satisfies the clauses of a circuit satisfies those by a plan that is right for it
abbrev pub CutsFollow : Type 0
CutsFollow = (plan : List Cut) (c : Circuit) → IsCutOf plan c
    → (a : ℕ → Bool) → Satisfies a (bad_clauses c) → Satisfies a (cut_clauses plan c)

-- What satisfies those by the plan gives what satisfies those of the circuit: with the same values but for gates that
-- are left out, so with those of inputs and latches. So where nothing satisfies the ones, nothing satisfies the others.
abbrev pub CutsAreCompleted : Type 0
CutsAreCompleted = (plan : List Cut) (c : Circuit) → IsWellFormed c → IsCutOf plan c
    → (a : ℕ → Bool) → Satisfies a (cut_clauses plan c)
    → (b : ℕ → Bool) × Satisfies b (bad_clauses c) × ((v : ℕ) → IsKept (zip c.gates plan) v → b v ≡ a v)
    × (map b c.inputs ≡ map a c.inputs) × (map b (latch_variables c) ≡ map a (latch_variables c))
