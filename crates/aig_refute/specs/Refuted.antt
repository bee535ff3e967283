-- What comes of a refutation that is read (this project's profile).
use Rattle.std.specs.Prelude.{◌≡◌, ◌≢◌, ◌<◌, ◌+◌, ◌*◌, ◌++◌, ◌⊎◌, ℕ, List, [], ◌∷◌, Bool, Result, Ok, Err, ⊤}
use Rattle.std.specs.Prelude.{false, fold, length, slice_index, take}
use Rattle.aig_circuit.specs.declared.circuit.Circuit.{Circuit}
use Rattle.aig_cnf.specs.Clauses.{HasTrue, Satisfies, bad_clauses, is_true}
use Rattle.aig_fault.specs.Stopping.{fault_at}
use Rattle.aig_fault.specs.declared.fault.Fault.{Fault}
use Rattle.aig_fault.specs.declared.fault.Place.TheVariants.{Line, Whole}
use Rattle.aig_fault.specs.declared.kind.Kind.TheVariants as kinds
use Rattle.aig_fault.specs.declared.stopped.Stopped.{Stopped}
use Rattle.aig_fault.specs.declared.stopped.Stopped.TheVariants.{OutOfMemory, ReadFailed, Refused, WriteFailed}
use Rattle.aig_io.specs.Runs.{AtEnd, Broken, Ending, IsUnbroken}
use Rattle.aig_refute.specs.Agree.{Agrees}
use Rattle.aig_refute.specs.Kept.{Adds, Change, Deletes, DoesNotFollow, IsAmong, IsKept, IsStored}
use Rattle.aig_refute.specs.Lines.{Reading, Step, begun, cleared, line_of, missing_end, next, reading_of}
use Rattle.aig_refute.specs.declared.reader.LineEnd.{LineEnd}
use Rattle.aig_refute.specs.declared.reader.RefutationFormat.{RefutationFormat}
use Rattle.aig_refute.specs.declared.reader.RefutationReader.{RefutationReader}
use Rattle.aig_refute.specs.declared.reader.LineEnd.TheVariants as ends
use Rattle.aig_refute.specs.declared.checker.Checker.{Checker}

-- each clause that a checker keeps has a true literal, and each literal that it knows is true
abbrev pub Admits : Checker → (ℕ → Bool) → Type 0
Admits checker a = Agrees a checker.propagation.kernel

-- the words of the clauses that a checker keeps
abbrev pub words_of : Checker → List ℕ
words_of checker = checker.propagation.kernel.store.words.items

-- whether it knows that no assignment satisfies them
abbrev pub is_refuted : Checker → Bool
is_refuted checker = checker.propagation.kernel.refuted

-- literals below this one are those of the clauses that it was given
abbrev pub base_of : Checker → ℕ
base_of checker = checker.propagation.kernel.store.base

-- literals below this one are true by both assignments, or by none
abbrev pub AreAlike : ℕ → (ℕ → Bool) → (ℕ → Bool) → Type 0
AreAlike base a b = (literal : ℕ) → literal < base → is_true b literal ≡ is_true a literal

-- an assignment that is admitted makes this clause true beside them, and is this one but for variables brought in
abbrev pub CanExtend : List ℕ → Checker → (ℕ → Bool) → Type 0
CanExtend clause checker a = (b : ℕ → Bool) × (Admits checker b) × (HasTrue b clause) × (AreAlike (base_of checker) a b)

-- each assignment that was admitted has one that is admitted now, and is the same but for variables brought in
pub record Keeps (old new : Checker) : Type 0 where
  pub admits : (a : ℕ → Bool) → Admits old a → (b : ℕ → Bool) × (Admits new b) × (AreAlike (base_of old) a b)
  pub base : base_of new ≡ base_of old

-- each assignment that was admitted is, and each clause that was stored is
pub record Preserves (old new : Checker) : Type 0 where
  pub admits : (a : ℕ → Bool) → Admits old a → Admits new a
  pub base : base_of new ≡ base_of old
  pub stored : (clause : List ℕ) → IsStored (words_of old) clause → IsStored (words_of new) clause

-- the same with one clause more
pub record Gains (clause : List ℕ) (old new : Checker) : Type 0 where
  pub admits : (a : ℕ → Bool) → Admits old a → HasTrue a clause → Admits new a
  pub base : base_of new ≡ base_of old
  pub stored : (other : List ℕ) → IsStored (words_of old) other → IsStored (words_of new) other
  pub gained : IsStored (words_of new) clause

-- with all of these
pub record GainsAll (clauses : List (List ℕ)) (old new : Checker) : Type 0 where
  pub admits : (a : ℕ → Bool) → Admits old a → Satisfies a clauses → Admits new a
  pub base : base_of new ≡ base_of old
  pub stored : (other : List ℕ) → IsStored (words_of old) other → IsStored (words_of new) other
  pub gained : (clause : List ℕ) → IsAmong clauses clause → IsStored (words_of new) clause

-- how far a refutation was read, and what its lines changed so far, the last one first
pub record Followed : Type 0 where
  pub reading : Reading
  pub changes : List Change

abbrev pub changed : LineEnd → List ℕ → List Change → List Change
changed ends.Added clause before = Adds clause ∷ before
changed ends.Deleted clause before = Deletes clause ∷ before
changed end clause before = before

abbrev pub behind_line : LineEnd → Reading → Reading
behind_line ends.Added reading = cleared reading
behind_line ends.Deleted reading = cleared reading
behind_line end reading = reading

-- after one more byte
abbrev pub followed : Followed → ℕ → Followed
followed f byte = record {
  reading = behind_line (next f.reading byte).end (next f.reading byte).reading;
  changes = changed (next f.reading byte).end (next f.reading byte).reading.clause f.changes;
}

-- no bytes yet, of a refutation whose literals are below this one
abbrev pub unread : RefutationFormat → ℕ → Followed
unread format limit = record { reading = begun format limit; changes = [] }

-- this is wrong with what a byte ended: it is in no line; or a line adds a clause that does not follow by unit
-- propagation from those that are kept
abbrev pub IsStepFault : List (List ℕ) → List Change → Step → Fault → Type 0
IsStepFault given changes step fault =
    ((fault ≡ fault_at kinds.BadRefutation (Line (line_of step.reading)) 0) × (step.end ≡ ends.Bad))
    ⊎ ((fault ≡ fault_at kinds.DoesNotFollow (Line (line_of step.reading)) 0) × (step.end ≡ ends.Added)
    × DoesNotFollow (IsKept given changes) step.reading.clause)

-- after so many bytes of these
abbrev pub followed_to : Followed → List ℕ → ℕ → Followed
followed_to from bytes place = fold followed from (take place bytes)

-- and what the next byte ends
abbrev pub step_at : Followed → List ℕ → ℕ → Step
step_at from bytes place = next (followed_to from bytes place).reading (slice_index bytes place)

-- this is wrong with one of these bytes
abbrev pub IsLineFault : List (List ℕ) → Followed → List ℕ → Fault → Type 0
IsLineFault given from bytes fault = (place : ℕ) × (place < length bytes)
    × IsStepFault given (followed_to from bytes place).changes (step_at from bytes place) fault

-- each byte is in a line
abbrev pub AreInLines : Followed → List ℕ → Type 0
AreInLines from bytes = (place : ℕ) → place < length bytes → (step_at from bytes place).end ≢ ends.Bad

-- a checker stores each clause that is kept
abbrev pub AreStored : List (List ℕ) → List Change → Checker → Type 0
AreStored given changes checker = (clause : List ℕ) → IsKept given changes clause → IsStored (words_of checker) clause

-- a reader and a checker have come so far
abbrev pub HaveCome : List (List ℕ) → Followed → RefutationReader → Checker → Type 0
HaveCome given f reader checker = (reading_of reader ≡ f.reading) × AreStored given f.changes checker

-- What is wrong with what a byte ended, whichever clauses were given and whatever was changed: with this reading; with
-- the next byte; with one of these; with what ends the last number.
abbrev pub IsWrongEnd : LineEnd → Reading → Checker → Fault → Type 0
IsWrongEnd end reading checker fault = (given : List (List ℕ)) (changes : List Change) → AreStored given changes checker
    → IsStepFault given changes (record { reading = reading; end = end }) fault

abbrev pub IsWrongByte : ℕ → RefutationReader → Checker → Fault → Type 0
IsWrongByte byte reader checker fault = (given : List (List ℕ)) (f : Followed) → HaveCome given f reader checker
    → IsStepFault given f.changes (next f.reading byte) fault

abbrev pub IsWrongWithin : List ℕ → RefutationReader → Checker → Fault → Type 0
IsWrongWithin bytes reader checker fault = (is_refuted checker ≡ false)
    × ((given : List (List ℕ)) (f : Followed) → HaveCome given f reader checker → IsLineFault given f bytes fault)

abbrev pub IsWrongLast : RefutationReader → Checker → Fault → Type 0
IsWrongLast reader checker fault = (is_refuted checker ≡ false)
    × ((given : List (List ℕ)) (f : Followed) → HaveCome given f reader checker
    → IsLineFault given f (missing_end f.reading) fault)

-- the bytes, where all came with what ends the last number
abbrev pub text_of : Followed → List ℕ → Ending → List ℕ
text_of from bytes AtEnd = bytes ++ missing_end (fold followed from bytes).reading
text_of from bytes ending = bytes

-- nothing was shown: each byte is in a line, and that no literal is needed does not follow
pub record ShowsNothing (given : List (List ℕ)) (from : Followed) (bytes : List ℕ) : Type 0 where
  pub in_lines : AreInLines from bytes
  pub unfollowed : DoesNotFollow (IsKept given (fold followed from bytes).changes) []

-- a refutation of these clauses is refused with this fault, where its bytes ended so
abbrev pub IsRefusedWhere : RefutationFormat → List (List ℕ) → ℕ → Fault → List ℕ → Ending → Type 0
IsRefusedWhere format given limit fault bytes ending =
    (IsUnbroken ending × IsLineFault given (unread format limit) (text_of (unread format limit) bytes ending) fault)
    ⊎ ((fault ≡ fault_at kinds.NoRefutation Whole 0) × (ending ≡ AtEnd)
    × ShowsNothing given (unread format limit) (text_of (unread format limit) bytes ending))

-- how the bytes ended, where this stopped it
abbrev pub EndsFor : RefutationFormat → List (List ℕ) → ℕ → Stopped → List ℕ → Ending → Type 0
EndsFor format given limit OutOfMemory bytes ending = IsUnbroken ending
EndsFor format given limit ReadFailed bytes ending = ending ≡ Broken
EndsFor format given limit WriteFailed bytes ending = ⊥
EndsFor format given limit (Refused fault) bytes ending = IsRefusedWhere format given limit fault bytes ending

-- All came, and a checker admits no assignment; or this is why that is not known, whichever clauses it was given.
abbrev pub ReadingSays : RefutationFormat → ℕ → Checker → Result ⊤ Stopped → List ℕ → Ending → Type 0
ReadingSays format limit checker (Ok done) bytes ending = (ending ≡ AtEnd) × ((a : ℕ → Bool) → ¬ Admits checker a)
ReadingSays format limit checker (Err stopped) bytes ending =
    (given : List (List ℕ)) → AreStored given [] checker → EndsFor format given limit stopped bytes ending

-- literals of a circuit are below this one
abbrev pub literals_of : Circuit → ℕ
literals_of c = 2 * c.max_var + 2

-- All came, and no assignment lets a bad state of the circuit be 1; or this is why that is not known.
abbrev pub RefutationSays : RefutationFormat → Circuit → Result ⊤ Stopped → List ℕ → Ending → Type 0
RefutationSays format c (Ok done) bytes ending =
    (ending ≡ AtEnd) × ((a : ℕ → Bool) → ¬ Satisfies a (bad_clauses c))
RefutationSays format c (Err stopped) bytes ending =
    EndsFor format (bad_clauses c) (literals_of c) stopped bytes ending
