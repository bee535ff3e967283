-- The files and streams of a program, and what is done with the source and the destination that a request names: each
-- is a stream, or a file with its name (this project's profile).
use Rattle.std.specs.Prelude.{◌≡◌, ◌∷◌, ℕ, List, [], take, Option, None, Some, Result, Ok, Err, false, true}
use Rattle.aig_io.specs.Devices.{History}
use Rattle.aig_io.specs.Files.{End, Files, Left, NotKept, Whole, end_of_close, used}
use Rattle.aig_io.specs.Runs.{All, AtEnd, Beginning, Broken, Delivery, Ending, IsCut, NotSent, Open, came, sent}
use Rattle.aig_files.specs.Named.{IsFailure}
use Rattle.aig_files.specs.declared.reason.Reason.{Reason}

-- all that a program can reach, with why the last use of the files failed, if it did and the system told
pub record World : Type 0 where
  pub files : Files
  pub why : Option Reason
  pub input : History
  pub output : History
  pub errors : History

abbrev pub world : Files → Option Reason → History → History → History → World
world files why input output errors =
    record { files = files; why = why; input = input; output = output; errors = errors }

-- no file is open
abbrev pub IsIdle : World → Type 0
IsIdle w = w.files.current ≡ None

-- the files after one more use of them
abbrev pub with_use : List ℕ → List ℕ → End → Files → Files
with_use name bytes end files = record files { uses = used name bytes end ∷ files.uses }

-- the file with this name gave these bytes, which ended so; it is opened at the first call
abbrev pub IsReadAs : List ℕ → List ℕ → Ending → (files files_now : Files) → Type 0
IsReadAs name bytes AtEnd files files_now = files_now ≡ with_use name bytes Whole files
IsReadAs name [] Open files files_now = files_now ≡ files
IsReadAs name (byte ∷ bytes) Open files files_now = files_now ≡ with_use name (byte ∷ bytes) Left files
IsReadAs name bytes Broken files files_now =
    (end : End) × IsFailure false bytes end × (files_now ≡ with_use name bytes end files)

-- how the writing of this text to a file ended where it failed, by the bytes that the file took: one that was not kept
-- took all
abbrev pub IsWriteEnd : List ℕ → List ℕ → End → Type 0
IsWriteEnd text bytes NotKept = bytes ≡ text
IsWriteEnd text bytes end = IsFailure true bytes end

-- The file with this name took so much of this text. It is made for the first byte; one that took all is synced if
-- that was asked of the files.
abbrev pub IsWrittenAs : List ℕ → List ℕ → Delivery → (files files_now : Files) → Type 0
IsWrittenAs name text NotSent files files_now = files_now ≡ files
IsWrittenAs name text All files files_now = files_now ≡ with_use name text (end_of_close files) files
IsWrittenAs name text (Beginning count) files files_now =
    (end : End) × IsWriteEnd text (take count text) end × (files_now ≡ with_use name (take count text) end files)

-- how much of a text is taken where writing it answers so
abbrev pub TakesAs : {A E : Type 0} → Result A E → Delivery → Type 0
TakesAs (Ok done) delivery = delivery ≡ All
TakesAs (Err fault) delivery = IsCut delivery

-- the source gave these bytes, which ended so, and no other was touched
abbrev pub CameFrom : Option (List ℕ) → List ℕ → Ending → (before after : World) → Type 0
CameFrom None bytes ending before after = after ≡ record before { input = came bytes ending before.input }
CameFrom (Some name) bytes ending before after =
    (files : Files) × IsReadAs name bytes ending before.files files
    × (after ≡ record before { files = files; why = after.why })

-- the destination took so much of this text, and no other was touched
abbrev pub SentTo : Option (List ℕ) → List ℕ → Delivery → (before after : World) → Type 0
SentTo None text delivery before after = after ≡ record before { output = sent text delivery before.output }
SentTo (Some name) text delivery before after =
    (files : Files) × IsWrittenAs name text delivery before.files files
    × (after ≡ record before { files = files; why = after.why })

-- The source was read, and this holds of what came.
pub record ReadIn (Says : List ℕ → Ending → Type 0) (source : Option (List ℕ)) (before after : World) : Type 0 where
  pub bytes : List ℕ
  pub ending : Ending
  pub says : Says bytes ending
  pub came : CameFrom source bytes ending before after

-- A text was sent to the destination, and this holds of it and of how much was taken.
pub record SentIn (Says : List ℕ → Delivery → Type 0) (destination : Option (List ℕ)) (before after : World) : Type 0
  where
    pub text : List ℕ
    pub delivery : Delivery
    pub says : Says text delivery
    pub sent : SentTo destination text delivery before after

-- The source was read and a text was sent to the destination, and this holds of both.
abbrev pub TransferredBetween : (List ℕ → Ending → List ℕ → Delivery → Type 0) → (source destination : Option (List ℕ))
    (before after : World) → Type 0
TransferredBetween Says source destination before after =
    (between : World)
    × ReadIn (λ bytes ending. SentIn (Says bytes ending) destination between after) source before between
