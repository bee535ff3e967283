-- What comes of a refutation of the clauses by a plan (this project's profile).
use Rattle.std.specs.Prelude.{◌≡◌, ℕ, List, Bool, Result, Ok, Err, ⊤}
use Rattle.aig_circuit.specs.declared.circuit.Circuit.{Circuit}
use Rattle.aig_cnf.specs.Clauses.{Satisfies}
use Rattle.aig_cuts.specs.declared.cut.Cut.{Cut}
use Rattle.aig_cuts.specs.Cuts.{cut_clauses}
use Rattle.aig_fault.specs.declared.stopped.Stopped.{Stopped}
use Rattle.aig_io.specs.Runs.{AtEnd, Ending}
use Rattle.aig_refute.specs.Refuted.{EndsFor, literals_of}
use Rattle.aig_refute.specs.declared.reader.RefutationFormat.{RefutationFormat}

-- All came, and no assignment satisfies the clauses by the plan; or this is why that is not known. What that says of
-- the circuit is said by the laws of `aig_cuts`, where the plan is right for it.
abbrev pub CutRefutationSays : RefutationFormat → List Cut → Circuit → Result ⊤ Stopped → List ℕ → Ending → Type 0
CutRefutationSays format plan c (Ok done) bytes ending =
    (ending ≡ AtEnd) × ((a : ℕ → Bool) → ¬ Satisfies a (cut_clauses plan c))
CutRefutationSays format plan c (Err stopped) bytes ending =
    EndsFor format (cut_clauses plan c) (literals_of c) stopped bytes ending
