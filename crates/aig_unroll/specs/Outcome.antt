-- What came of unrolling a circuit over so many frames.
use Rattle.std.specs.Prelude.{◌≡◌, ◌⊎◌, ◌<◌, ◌≤◌, ℕ, length}
use Rattle.aig_circuit.specs.declared.circuit.Circuit.{Circuit}
use Rattle.aig_circuit.specs.declared.circuit.TheConstants.{LARGEST}
use Rattle.aig_fault.specs.Stopping.{fault_at}
use Rattle.aig_fault.specs.declared.fault.Place.TheVariants.{Whole}
use Rattle.aig_fault.specs.declared.kind.Kind.TheVariants.{NoBadStates, NotUnrollable, TooLargeUnrolled}
use Rattle.aig_fault.specs.declared.stopped.Stopped.{Stopped}
use Rattle.aig_fault.specs.declared.stopped.Stopped.TheVariants.{OutOfMemory, Refused}
use Rattle.aig_unroll.specs.Unrolled.{IsTooLarge, IsUnsupported}

-- what an error says of the circuit; where memory was refused, the circuit could have been unrolled
abbrev pub NotUnrolled : Circuit → ℕ → Stopped → Type 0
NotUnrolled c frames OutOfMemory = (¬ IsUnsupported c) × (¬ IsTooLarge c frames)
NotUnrolled c frames (Refused fault) =
    ((fault ≡ fault_at NotUnrollable Whole 0) × IsUnsupported c)
    ⊎ ((fault ≡ fault_at TooLargeUnrolled Whole 0) × (¬ IsUnsupported c) × IsTooLarge c frames)
NotUnrolled c frames stopped = ⊥

-- clauses can be made of an unrolled circuit: it has a bad state, and no number is too large where variables have
-- numbers one larger
abbrev pub HasClauses : Circuit → Type 0
HasClauses d = (0 < length d.bad) × (d.max_var < LARGEST)

-- what an error says of it
abbrev pub NotInClauses : Circuit → Stopped → Type 0
NotInClauses d (Refused fault) =
    ((fault ≡ fault_at NoBadStates Whole 0) × (length d.bad ≡ 0))
    ⊎ ((fault ≡ fault_at TooLargeUnrolled Whole 0) × (0 < length d.bad) × (LARGEST ≤ d.max_var))
NotInClauses d stopped = ⊥
