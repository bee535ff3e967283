-- What is said of the circuit that shows the goals of a justice property (this project's profile): when there is one,
-- and what an error says where there is none.
use Rattle.std.specs.Prelude.{◌≡◌, ◌<◌, ◌≤◌, ◌⊎◌, ℕ, length}
use Rattle.aig_circuit.specs.declared.circuit.Circuit.{Circuit}
use Rattle.aig_circuit.specs.Wellformed.{largest_index}
use Rattle.aig_fault.specs.Stopping.{fault_at}
use Rattle.aig_fault.specs.declared.fault.Fault.{Fault}
use Rattle.aig_fault.specs.declared.fault.Place.TheVariants.{Whole}
use Rattle.aig_fault.specs.declared.kind.Kind.TheVariants.{NoSuchJustice, TooLargeJustice}
use Rattle.aig_fault.specs.declared.stopped.Stopped.{Stopped}
use Rattle.aig_fault.specs.declared.stopped.Stopped.TheVariants.{OutOfMemory, Refused}
use Rattle.aig_lasso.specs.Goals.{goals_of}

-- the circuit has the justice property of this number
abbrev pub HasJustice : ℕ → Circuit → Type 0
HasJustice property c = property < length c.justice.sizes

-- and no more goals for it than a circuit may have bad states
abbrev pub HasGoals : ℕ → Circuit → Type 0
HasGoals property c = HasJustice property c × (length (goals_of property c) ≤ largest_index)

-- it has no such property, and this fault says so
abbrev pub HasNoJustice : ℕ → Circuit → Fault → Type 0
HasNoJustice property c fault = (fault ≡ fault_at NoSuchJustice Whole property) × (length c.justice.sizes ≤ property)

-- it has more goals for it
abbrev pub HasTooManyGoals : ℕ → Circuit → Fault → Type 0
HasTooManyGoals property c fault =
    (fault ≡ fault_at TooLargeJustice Whole 0) × HasJustice property c × (largest_index < length (goals_of property c))

-- what an error says of the circuit; where memory was refused, the goals are there
abbrev pub ShowsNoGoals : ℕ → Circuit → Stopped → Type 0
ShowsNoGoals property c OutOfMemory = HasGoals property c
ShowsNoGoals property c (Refused fault) = HasNoJustice property c fault ⊎ HasTooManyGoals property c fault
ShowsNoGoals property c stopped = ⊥
