-- Which text a comparison writes (this project's profile): two circuits are read, and their miter is written.
use Rattle.std.specs.Prelude.{◌≡◌, ◌⊎◌, ℕ, List, Bool, Ok, Err, None, Some, true, false}
use Rattle.aig_circuit.specs.declared.circuit.Circuit.{Circuit}
use Rattle.aig_command.specs.declared.request.Miter.{Miter}
use Rattle.aig_fault.specs.declared.fault.Fault.{Fault}
use Rattle.aig_fault.specs.declared.stopped.Stopped.TheVariants.{Refused}
use Rattle.aig_miter.specs.Outcome.{IsComparable, comparable, miter_of}
use Rattle.aig_pairing.specs.ByNames.{by_names}
use Rattle.aig_pairing.specs.NameFaults.{first_name_fault}
use Rattle.aig_commands.specs.Conversion.{IsTextAs, IsWritten}
use Rattle.aig_commands.specs.File.{IsFileOf}
use Rattle.aig_commands.specs.Reading.{IsUnreadable}

-- ---- the first circuit

-- It can be compared, and has right names where circuits are paired by them.
pub record IsAccepted (request : Miter) (first : Circuit) : Type 0 where
  pub comparable : IsComparable first
  pub named : request.by_name ≡ true → first_name_fault first ≡ None

-- why it cannot be: only of one that can be compared are the names looked at
abbrev pub NotAccepted : Miter → Circuit → Fault → Type 0
NotAccepted request first fault =
    (comparable first ≡ Err (Refused fault))
    ⊎ (IsComparable first × (request.by_name ≡ true) × (first_name_fault first ≡ Some fault))

-- The bytes are the file of this circuit, and it can be compared.
pub record IsFirst (request : Miter) (bytes : List ℕ) (first : Circuit) : Type 0 where
  pub read : IsFileOf bytes request.max_var first
  pub accepted : IsAccepted request first

-- The bytes are no file of such a circuit, for this reason.
abbrev pub NotFirst : Miter → Fault → List ℕ → Type 0
NotFirst request fault bytes =
    IsUnreadable request.max_var fault bytes
    ⊎ ((first : Circuit) × IsFileOf bytes request.max_var first × NotAccepted request first fault)

-- ---- the second

-- the second circuit in the order in which the first one names inputs and outputs, or as it is
abbrev pub IsPaired : Bool → (first second paired : Circuit) → Type 0
IsPaired true first second paired = by_names first second ≡ Ok paired
IsPaired false first second paired = paired ≡ second

-- the miter of both
pub record IsMadeOf (request : Miter) (first second made : Circuit) : Type 0 where
  pub paired : Circuit
  pub is_paired : IsPaired request.by_name first second paired
  pub is_made : miter_of first paired ≡ Ok made

-- There is none, for this reason: they cannot be paired by their names, or cannot be compared.
abbrev pub NotMadeOf : Miter → (first second : Circuit) → Fault → Type 0
NotMadeOf request first second fault =
    ((request.by_name ≡ true) × (by_names first second ≡ Err fault))
    ⊎ ((paired : Circuit) × IsPaired request.by_name first second paired
    × (miter_of first paired ≡ Err (Refused fault)))

-- The text that is written for these bytes of the second circuit: that of the miter, or of what it is simplified to, in
-- ASCII or in binary.
pub record IsMiterText (request : Miter) (first : Circuit) (bytes text : List ℕ) : Type 0 where
  pub second : Circuit
  pub made : Circuit
  pub written : Circuit
  pub read : IsFileOf bytes request.max_var second
  pub is_made : IsMadeOf request first second made
  pub is_written : IsWritten request.simplify made written
  pub written_as : IsTextAs request.ascii false written text

-- There is no such text, for this reason.
abbrev pub NotMiter : Miter → Circuit → Fault → List ℕ → Type 0
NotMiter request first fault bytes =
    IsUnreadable request.max_var fault bytes
    ⊎ ((second : Circuit) × IsFileOf bytes request.max_var second × NotMadeOf request first second fault)
