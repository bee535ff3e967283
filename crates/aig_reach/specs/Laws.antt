-- What the definitions say of one another.
use Rattle.std.specs.Prelude.{◌↔◌, ◌<◌, ℕ, List, Bool, length}
use Rattle.aig_circuit.specs.declared.circuit.Circuit.{Circuit}
use Rattle.aig_circuit.specs.Wellformed.{IsWellFormed}
use Rattle.aig_cnf.specs.Clauses.{Satisfies, bad_clauses}
use Rattle.aig_unroll.specs.Unrolled.{IsUnrolled}
use Rattle.aig_witness.specs.declared.verdict.Verdict.TheVariants.{Confirmed}
use Rattle.aig_witness.specs.Witness.{Claim, IsVerdict, SaysClaim}
use Rattle.aig_reach.specs.Cut.{cut_claim}

-- What satisfies the clauses of the circuit unrolled over so many frames is cut into a run that reaches a bad state.
abbrev pub CutsAreConfirmed : Type 0
CutsAreConfirmed = (c d : Circuit) (frames : ℕ) (a : ℕ → Bool) → IsWellFormed c → IsWellFormed d
    → IsUnrolled c frames d → Satisfies a (bad_clauses d)
    → (property : ℕ) × (step : ℕ) × (property < length c.bad) × (step < frames)
    × IsVerdict c (cut_claim c frames a property) (Confirmed step)

-- each cut that names a bad state is claimed by a witness file
abbrev pub CutsHaveFiles : Type 0
CutsHaveFiles = (c : Circuit) (frames : ℕ) (a : ℕ → Bool) (property : ℕ) → IsWellFormed c
    → property < length c.bad → (bytes : List ℕ) × SaysClaim c bytes (cut_claim c frames a property)

-- Where nothing satisfies the clauses, no claim is confirmed at one of the first so many steps, of any number of steps,
-- with x or without.
abbrev pub UnsatisfiableMeansNone : Type 0
UnsatisfiableMeansNone = (c d : Circuit) (frames : ℕ) → IsWellFormed c → IsWellFormed d → IsUnrolled c frames d
    → ((a : ℕ → Bool) → ¬ Satisfies a (bad_clauses d))
    → (claim : Claim) (step : ℕ) → step < frames → ¬ IsVerdict c claim (Confirmed step)

-- The clauses can be satisfied exactly where a claim is confirmed at one of the first so many steps.
abbrev pub SatisfiableExactlyWhereReached : Type 0
SatisfiableExactlyWhereReached = (c d : Circuit) (frames : ℕ) → IsWellFormed c → IsWellFormed d
    → IsUnrolled c frames d
    → ((a : ℕ → Bool) × Satisfies a (bad_clauses d))
    ↔ ((claim : Claim) × (step : ℕ) × (step < frames) × IsVerdict c claim (Confirmed step))
