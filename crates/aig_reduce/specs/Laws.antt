-- What the definitions of this crate say of one another.
use Rattle.std.specs.Prelude.{◌≡◌, ℕ, Bool, map}
use Rattle.aig_circuit.specs.declared.circuit.Circuit.{Circuit}
use Rattle.aig_circuit.specs.Wellformed.{IsWellFormed}
use Rattle.aig_cnf.specs.Clauses.{Satisfies, bad_clauses}
use Rattle.aig_meaning.specs.Meaning.{latch_variables}
use Rattle.aig_reduce.specs.Reduced.{IsReducedIf}

-- where something satisfies the clauses of c, something with the same values of inputs and latches satisfies those of d
abbrev pub GoesOver : Circuit → Circuit → Type 0
GoesOver c d = (a : ℕ → Bool) → Satisfies a (bad_clauses c)
    → (b : ℕ → Bool) × Satisfies b (bad_clauses d) × (map b d.inputs ≡ map a c.inputs)
    × (map b (latch_variables d) ≡ map a (latch_variables c))

-- What satisfies the clauses of a circuit goes over to what is left of it, and back, and so it does to the circuit
-- itself. So where nothing satisfies the ones, nothing satisfies the others.
abbrev pub ReductionsAreSatisfiedAlike : Type 0
ReductionsAreSatisfiedAlike = (simplify : Bool) (c d : Circuit) → IsWellFormed c → IsReducedIf simplify c d
    → GoesOver c d × GoesOver d c
