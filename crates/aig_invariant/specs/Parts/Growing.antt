-- How a circuit grows by cubes.
use Rattle.std.specs.Prelude.{◌≡◌, ◌⊎◌, ℕ, List, if◌then◌else◌}
use Rattle.aig_circuit.specs.declared.circuit.Circuit.{Circuit}
use Rattle.aig_fault.specs.Stopping.{refusal}
use Rattle.aig_fault.specs.declared.fault.Place.TheVariants.{Whole}
use Rattle.aig_fault.specs.declared.kind.Kind.TheVariants.{TooLargeInvariant}
use Rattle.aig_fault.specs.declared.stopped.Stopped.{Stopped}
use Rattle.aig_fault.specs.declared.stopped.Stopped.TheVariants.{OutOfMemory}
use Rattle.aig_meaning.specs.Meaning.{next_literals}
use Rattle.aig_invariant.specs.declared.growth.Latches.{Latches}
use Rattle.aig_invariant.specs.Invariant.{state_literals, with_cube}
use Rattle.aig_invariant.specs.InvariantText.{is_passed}
use Rattle.aig_invariant.specs.Parts.Rows.{cube_at}

-- these literals stand for the latches of the circuit
abbrev pub AreTheLatches : Latches → Circuit → Type 0
AreTheLatches latches c = (latches.state.items ≡ state_literals c) × (latches.next.items ≡ next_literals c)

-- it was refused for this reason: memory ran out; or it is too large, which is that this holds
abbrev pub IsRefused : Type 0 → Stopped → Type 0
IsRefused Holds stopped = (stopped ≡ OutOfMemory) ⊎ ((stopped ≡ refusal TooLargeInvariant Whole 0) × Holds)

-- the circuit with the cube of a line, if it has one
abbrev pub with_line : List ℕ → Circuit → Circuit
with_line text c = if is_passed text then c else with_cube (cube_at text) c
