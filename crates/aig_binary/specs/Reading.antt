-- What the answer of reading a source to its end says.
use Rattle.std.specs.Prelude.{◌≡◌, ◌++◌, ℕ, List, Some, Result, Ok, Err}
use Rattle.aig_fault.specs.declared.fault.Fault.{Fault}
use Rattle.aig_fault.specs.declared.stopped.Stopped.{Stopped}
use Rattle.aig_fault.specs.declared.stopped.Stopped.TheVariants.{OutOfMemory, ReadFailed, Refused, WriteFailed}
use Rattle.aig_io.specs.Runs.{AtEnd, Broken, Ending, IsUnbroken, Open}
use Rattle.aig_binary.specs.File.{first_fault}

-- all came, and is refused with this fault
abbrev pub AtItsEnd : (Fault → List ℕ → Type 0) → Fault → List ℕ → Ending → Type 0
AtItsEnd IsRefused fault bytes ending = (ending ≡ AtEnd) × IsRefused fault bytes

-- all came, and is refused with this fault; or so many bytes came that they are, whatever comes after
abbrev pub AtAnyTime : (Fault → List ℕ → Type 0) → Fault → List ℕ → Ending → Type 0
AtAnyTime IsRefused fault bytes AtEnd = IsRefused fault bytes
AtAnyTime IsRefused fault bytes Open = (more : List ℕ) → IsRefused fault (bytes ++ more)
AtAnyTime IsRefused fault bytes Broken = ⊥

-- Why nothing was made of what came: the source failed; memory was refused; or what came is refused. No sink is called.
abbrev pub NotRead : (Fault → List ℕ → Ending → Type 0) → Stopped → List ℕ → Ending → Type 0
NotRead Refuses OutOfMemory bytes ending = IsUnbroken ending
NotRead Refuses ReadFailed bytes ending = ending ≡ Broken
NotRead Refuses WriteFailed bytes ending = ⊥
NotRead Refuses (Refused fault) bytes ending = Refuses fault bytes ending

-- all came, and this holds of what was made and of the bytes; or nothing was made
abbrev pub ReadSays : {A : Type 0} → (A → List ℕ → Type 0) → (Fault → List ℕ → Ending → Type 0) → Result A Stopped
    → List ℕ → Ending → Type 0
ReadSays Holds Refuses (Ok made) bytes ending = (ending ≡ AtEnd) × Holds made bytes
ReadSays Holds Refuses (Err stopped) bytes ending = NotRead Refuses stopped bytes ending

-- the bytes are no file of a circuit within this limit: this is their first fault
abbrev pub IsUnreadable : ℕ → Fault → List ℕ → Type 0
IsUnreadable limit fault bytes = first_fault limit bytes ≡ Some (Refused fault)
