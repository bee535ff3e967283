-- What the calls answer that read a circuit into arrays, write the circuit of arrays, and step it (this project's
-- interface for C).
use Rattle.std.specs.Prelude.{◌≡◌, ◌≤◌, ◌⊎◌, ◌++◌, ℕ, List, [], Bool, true, false, Result, Ok, Err, drop, length}
use Rattle.aig_circuit.specs.declared.circuit.Circuit.{Circuit}
use Rattle.aig_arrays.specs.Ordered.{IsNumberedImage}
use Rattle.aig_arrays.specs.Decoded.{decoded}
use Rattle.aig_arrays.specs.Words.{HasWords, circuit_bytes, circuit_words, counts_of}
use Rattle.aig_arrays.specs.declared.counts.Counts.{Counts}
use Rattle.aig_array_steps.specs.Step.{HasNoRoom, IsFault, IsStepOf, values_length}
use Rattle.aig_commands.specs.Conversion.{IsTextAs}
use Rattle.aig_commands.specs.File.{IsFileOf}
use Rattle.aig_commands.specs.Reading.{IsUnreadable}
use Rattle.aig_fault.specs.Stopping.{fault_at}
use Rattle.aig_fault.specs.declared.fault.Fault.{Fault}
use Rattle.aig_fault.specs.declared.fault.Place.TheVariants.{Whole}
use Rattle.aig_fault.specs.declared.kind.Kind.TheVariants.{TooLarge}
use Rattle.aig_fault.specs.declared.stopped.Stopped.{Stopped}
use Rattle.aig_library.specs.Answers.{Answers, Made}
use Rattle.aig_library.specs.Asked.{CanRead, CanWrite, has}
use Rattle.aig_library.specs.Numbers as library
use Rattle.aig_library.specs.Outcome.{ending, fault_outcome, out_of_memory, outcome_of}
use Rattle.aig_library.specs.declared.outcome.Outcome.{Outcome}

-- what a caller has of a circuit: words, bytes, and counts
pub record Arrays : Type 0 where
  pub words : List ℕ
  pub bytes : List ℕ
  pub counts : Counts

abbrev pub arrays : (words bytes : List ℕ) → Counts → Arrays
arrays words bytes counts = record { words = words; bytes = bytes; counts = counts }

-- which circuit is shown for one that was read, and which numbers follow its symbols
abbrev pub IsShownAs : (ordered : Bool) → (found shown : Circuit) → (numbers : List ℕ) → Type 0
IsShownAs true found shown numbers = IsNumberedImage found shown numbers
IsShownAs false found shown numbers = (shown ≡ found) × (numbers ≡ [])

-- the words of a circuit with these numbers after them, its bytes and its counts
abbrev pub arrays_of : Circuit → (numbers : List ℕ) → Arrays
arrays_of shown numbers = arrays (circuit_words shown ++ numbers) (circuit_bytes shown) (counts_of shown)

-- the arrays of a file of a circuit
pub record IsReadAs (options max_var : ℕ) (input : List ℕ) (made : Arrays) : Type 0 where
  pub found : Circuit
  pub shown : Circuit
  pub numbers : List ℕ
  pub read : IsFileOf input max_var found
  pub has_words : HasWords found
  pub is_shown : IsShownAs (has options library.ordered) found shown numbers
  pub is_made : made ≡ arrays_of shown numbers

-- there is room for both
abbrev pub HasRoom : (made before : Arrays) → Type 0
HasRoom made before = (length made.words ≤ length before.words) × (length made.bytes ≤ length before.bytes)

-- at the front, and what stood after is as it was
abbrev pub in_front : (made before : List ℕ) → List ℕ
in_front made before = made ++ drop (length made) before

-- Words and bytes are at the front of the arrays, where there is room for both; else the arrays are as they were. The
-- outcome tells how many words there are. The counts are told either way.
abbrev pub ArePlaced : (made before after : Arrays) → Outcome → Type 0
ArePlaced made before after outcome = (after.counts ≡ made.counts)
    × ((HasRoom made before × (after.words ≡ in_front made.words before.words)
    × (after.bytes ≡ in_front made.bytes before.bytes)
    × (outcome ≡ ending library.done 0 (length made.words)))
    ⊎ ((¬ HasRoom made before) × (after.words ≡ before.words) × (after.bytes ≡ before.bytes)
    × (outcome ≡ ending library.too_short 0 (length made.words))))

-- there are arrays, and they are put where there is room for them
pub record Shown (IsMade : Arrays → Type 0) (before after : Arrays) (outcome : Outcome) : Type 0 where
  pub made : Arrays
  pub is_made : IsMade made
  pub placed : ArePlaced made before after outcome

-- The input has no arrays for this reason: it is no file of a circuit, or the file of one with more symbols or bytes of
-- names than can be counted.
abbrev pub IsReadRefused : (max_var : ℕ) (input : List ℕ) → Fault → Type 0
IsReadRefused max_var input fault =
    IsUnreadable max_var fault input
    ⊎ ((found : Circuit) × IsFileOf input max_var found × (¬ HasWords found)
    × (fault ≡ fault_at TooLarge Whole 0))

-- What is answered where arrays are read. Without arrays those of the caller are as they were.
abbrev pub ReadAnswers : (options max_var : ℕ) (input : List ℕ) (before after : Arrays) → Outcome → Type 0
ReadAnswers options max_var input before after outcome =
    Answers (CanRead options max_var) (Shown (IsReadAs options max_var input) before after outcome)
    (IsReadRefused max_var input) (after ≡ before) outcome

-- the text of a circuit that arrays tell
pub record IsTextOf (ascii : Bool) (first : Result Circuit Stopped) (text : List ℕ) : Type 0 where
  pub found : Circuit
  pub is_decoded : first ≡ Ok found
  pub is_text : IsTextAs ascii false found text

-- the arrays tell no circuit, and the outcome tells their first fault
abbrev pub TellNone : Result Circuit Stopped → Outcome → Type 0
TellNone first outcome = (stopped : Stopped) × (first ≡ Err stopped) × (outcome ≡ outcome_of stopped)

-- What is answered where the circuit of arrays is written. Without a text the output is as it was.
abbrev pub WriteAnswers : (options : ℕ) → Arrays → (before after : List ℕ) → Outcome → Type 0
WriteAnswers options given before after outcome =
    let first = decoded given.counts given.words given.bytes in
    ((¬ CanWrite options) × (after ≡ before) × (outcome ≡ ending library.bad_options 0 0))
    ⊎ (CanWrite options × (Made (IsTextOf (has options library.ascii) first) before after outcome
    ⊎ ((after ≡ before) × (TellNone first outcome ⊎ (outcome ≡ out_of_memory)))))

-- What is answered where a circuit of words in order is stepped: a step was made, or the values are as they were.
abbrev pub StepAnswers : Counts → (words before after : List ℕ) → Outcome → Type 0
StepAnswers n words before after outcome =
    (IsStepOf n words before after × (outcome ≡ ending library.done 0 (values_length n)))
    ⊎ ((after ≡ before) × ((HasNoRoom n words before × (outcome ≡ ending library.too_short 0 (values_length n)))
    ⊎ ((fault : Fault) × IsFault n words before fault × (outcome ≡ fault_outcome fault))))
