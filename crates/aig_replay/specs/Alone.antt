-- A circuit with one of its bad states alone (this project's profile): what is asked of a solver.
use Rattle.std.specs.Prelude.{◌≡◌, ◌<◌, ◌≤◌, ℕ, [], ◌∷◌, Option, None, Some, length, slice_index_or, ⊤}
use Rattle.aig_circuit.specs.declared.circuit.Circuit.{Circuit}
use Rattle.aig_fault.specs.Stopping.{fault_at}
use Rattle.aig_fault.specs.declared.fault.Fault.{Fault}
use Rattle.aig_fault.specs.declared.fault.Place.TheVariants.{Whole}
use Rattle.aig_fault.specs.declared.kind.Kind.TheVariants.{NoSuchBadState}
use Rattle.aig_fault.specs.declared.stopped.Stopped.{Stopped}
use Rattle.aig_fault.specs.declared.stopped.Stopped.TheVariants.{OutOfMemory, Refused}

-- the circuit with the bad state of this number alone, and without symbols
abbrev pub with_bad_alone : ℕ → Circuit → Circuit
with_bad_alone n c = record c { bad = slice_index_or c.bad n 0 ∷ []; symbols = [] }

-- the circuit itself where no bad state is named
abbrev pub selected_of : Option ℕ → Circuit → Circuit
selected_of None c = c
selected_of (Some n) c = with_bad_alone n c

-- the circuit has the bad state that is named
abbrev pub HasSelected : Option ℕ → Circuit → Type 0
HasSelected None c = ⊤
HasSelected (Some n) c = n < length c.bad

-- it has not, and this fault says so
abbrev pub HasNotSelected : Option ℕ → Circuit → Fault → Type 0
HasNotSelected None c fault = ⊥
HasNotSelected (Some n) c fault = (fault ≡ fault_at NoSuchBadState Whole n) × (length c.bad ≤ n)

-- what an error says of the circuit; where memory was refused, the bad state is there
abbrev pub NotSelected : Option ℕ → Circuit → Stopped → Type 0
NotSelected selected c OutOfMemory = HasSelected selected c
NotSelected selected c (Refused fault) = HasNotSelected selected c fault
NotSelected selected c stopped = ⊥
