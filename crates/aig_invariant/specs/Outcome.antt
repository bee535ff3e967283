-- What comes of an invariant that is read (this project's profile).
use Rattle.std.specs.Prelude.{◌≡◌, ◌⊎◌, ◌<◌, ℕ, List, Result, Ok, Err, length}
use Rattle.aig_circuit.specs.declared.circuit.Circuit.{Circuit}
use Rattle.aig_circuit.specs.declared.circuit.TheConstants.{LARGEST}
use Rattle.aig_fault.specs.Stopping.{fault_at}
use Rattle.aig_fault.specs.declared.fault.Fault.{Fault}
use Rattle.aig_fault.specs.declared.fault.Place.TheVariants.{Whole}
use Rattle.aig_fault.specs.declared.kind.Kind.TheVariants.{TooLargeInvariant}
use Rattle.aig_fault.specs.declared.stopped.Stopped.{Stopped}
use Rattle.aig_fault.specs.declared.stopped.Stopped.TheVariants.{OutOfMemory, ReadFailed, Refused, WriteFailed}
use Rattle.aig_io.specs.Runs.{AtEnd, Broken, Ending, IsUnbroken}
use Rattle.aig_unroll.specs.Unrolled.{resets_of}
use Rattle.aig_invariant.specs.Invariant.{Cube, with_cubes, with_invariant}
use Rattle.aig_invariant.specs.InvariantText.{cubes_of}

-- the bytes are those of an invariant for the circuit, which has these cubes
abbrev pub HasCubes : Circuit → List ℕ → List Cube → Type 0
HasCubes c bytes cubes = cubes_of (resets_of c) bytes ≡ Ok cubes

-- the circuit would have too large an index, or too many constraints or bad states
abbrev pub IsOverfull : Circuit → Type 0
IsOverfull c = (LARGEST < c.max_var) ⊎ (LARGEST < length c.constraints) ⊎ (LARGEST < length c.bad)

-- the bytes are refused as an invariant of the circuit with this fault: of their first wrong line, or of what they make
abbrev pub IsInvariantRefused : Circuit → Fault → List ℕ → Type 0
IsInvariantRefused c fault bytes =
    (cubes_of (resets_of c) bytes ≡ Err fault)
    ⊎ ((fault ≡ fault_at TooLargeInvariant Whole 0) × (cubes : List Cube) × HasCubes c bytes cubes
    × IsOverfull (with_cubes cubes c))

-- why the bytes that came are not taken as an invariant of the circuit
abbrev pub NotInvariant : Circuit → Stopped → List ℕ → Ending → Type 0
NotInvariant c OutOfMemory bytes ending = IsUnbroken ending
NotInvariant c ReadFailed bytes ending = ending ≡ Broken
NotInvariant c WriteFailed bytes ending = ⊥
NotInvariant c (Refused fault) bytes ending = (ending ≡ AtEnd) × IsInvariantRefused c fault bytes

-- all bytes came, and the circuit is the one in which the invariant is to be shown; or this is why there is none
abbrev pub InvariantSays : Circuit → Result Circuit Stopped → List ℕ → Ending → Type 0
InvariantSays c (Ok d) bytes ending =
    (ending ≡ AtEnd) × (cubes : List Cube) × HasCubes c bytes cubes × (d ≡ with_invariant cubes c)
InvariantSays c (Err stopped) bytes ending = NotInvariant c stopped bytes ending
