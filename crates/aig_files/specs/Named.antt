-- Files with a name as devices, by the files of their system (this project's devices).
use Rattle.std.specs.Prelude.{◌≡◌, ◌<◌, ◌≤◌, ◌^◌, ◌==◌, ◌++◌, ◌∷◌, ℕ, zero, suc, List, [], length, take}
use Rattle.std.specs.Prelude.{Bool, true, false, not, Option, None, Some, Result, Ok, Err}
use Rattle.aig_io.specs.Devices.{History, Origin, no_file}
use Rattle.aig_io.specs.Files.{End, Files, OpenFile, Use, end_of_close, ended, used}
use Rattle.aig_io.specs.Files.{Left, NotKept, NotMade, NotOpened, ReadFailed, Synced, Whole, WriteFailed, Written}
use Rattle.aig_files.specs.declared.stage.Stage.{Stage}
use Rattle.aig_files.specs.declared.stage.Stage.TheVariants as stages

-- the newest use, and those before it
abbrev pub newest : List Use → Use
newest [] = used [] [] NotOpened
newest (last ∷ uses) = last

abbrev pub earlier : List Use → List Use
earlier [] = []
earlier (last ∷ uses) = uses

-- the bytes of the open file so far
abbrev pub open_bytes : Option OpenFile → List ℕ
open_bytes None = []
open_bytes (Some file) = file.bytes

-- the uses before a device's own, at this stage of it, the files then, and the bytes that it gave or took
abbrev pub uses_before : Stage → Files → List Use
uses_before stages.Untouched files = files.uses
uses_before stages.Open files = files.uses
uses_before stages.Ended files = earlier files.uses
uses_before stages.Failed files = earlier files.uses

abbrev pub files_before : Stage → Files → Files
files_before stage files = record files { uses = uses_before stage files; current = None }

abbrev pub bytes_at : Stage → Files → List ℕ
bytes_at stages.Untouched files = []
bytes_at stages.Open files = open_bytes files.current
bytes_at stages.Ended files = (newest files.uses).bytes
bytes_at stages.Failed files = (newest files.uses).bytes

-- the file with this name, over the files that are lent
abbrev pub named : ℕ → List ℕ → Files → Origin
named lender name before = record no_file { lender = lender; name = Some name; before = before }

-- the history of a device at this stage
abbrev pub history_at : ℕ → List ℕ → Stage → Files → ℕ → ℕ → History
history_at lender name stage files ends failures = record {
  origin = named lender name (files_before stage files);
  bytes = bytes_at stage files;
  ends = ends;
  failures = failures;
}

-- how the use of a file ends that failed, which was written or read, by the bytes that it took or gave
abbrev pub IsFailure : Bool → List ℕ → End → Type 0
IsFailure written bytes NotOpened = (written ≡ false) × (bytes ≡ [])
IsFailure written bytes ReadFailed = written ≡ false
IsFailure written bytes Left = (written ≡ false) × (2 ^ 62 ≤ length bytes)
IsFailure written bytes NotMade = (written ≡ true) × (bytes ≡ [])
IsFailure written bytes WriteFailed = written ≡ true
IsFailure written bytes Whole = ⊥
IsFailure written bytes Written = ⊥
IsFailure written bytes Synced = ⊥
IsFailure written bytes NotKept = ⊥

-- the file with this name was used last, and that ended so
abbrev pub IsUsed : List ℕ → List ℕ → End → Files → Type 0
IsUsed name bytes end files =
    files ≡ record files { uses = used name bytes end ∷ earlier files.uses; current = None }

-- the files at this stage of the use of the file with this name, which is written or read
abbrev pub IsAt : Bool → List ℕ → Stage → Files → Type 0
IsAt written name stages.Untouched files = files ≡ record files { current = None }
IsAt written name stages.Open files =
    files.current ≡ Some (record { is_written = written; name = name; bytes = open_bytes files.current })
IsAt written name stages.Ended files = (written ≡ false) × IsUsed name (newest files.uses).bytes Whole files
IsAt written name stages.Failed files =
    IsFailure written (newest files.uses).bytes (newest files.uses).end
    × IsUsed name (newest files.uses).bytes (newest files.uses).end files

-- whether the file is open at this stage, whether it was read to its end, and whether its use failed
abbrev pub is_open : Stage → Bool
is_open stages.Untouched = false
is_open stages.Open = true
is_open stages.Ended = false
is_open stages.Failed = false

abbrev pub is_ended : Stage → Bool
is_ended stages.Untouched = false
is_ended stages.Open = false
is_ended stages.Ended = true
is_ended stages.Failed = false

abbrev pub is_failed : Stage → Bool
is_failed stages.Untouched = false
is_failed stages.Open = false
is_failed stages.Ended = false
is_failed stages.Failed = true

-- what a device counted at this stage; once its file is open, it gave or took bytes
abbrev pub HasCounted : Stage → List ℕ → ℕ → ℕ → Type 0
HasCounted stage bytes ends failures = (is_ended stage ≡ not (ends == 0)) × (is_failed stage ≡ not (failures == 0))
    × (is_open stage ≡ true → 0 < length bytes)

-- the stage after a call that answered so, and the bytes that it moved
abbrev pub stage_after : {E : Type 0} → Result ℕ E → Stage
stage_after (Ok zero) = stages.Ended
stage_after (Ok (suc n)) = stages.Open
stage_after (Err fault) = stages.Failed

abbrev pub moved : {E : Type 0} → List ℕ → Result ℕ E → List ℕ
moved bytes (Ok n) = take n bytes
moved bytes (Err fault) = []

-- A call at this stage answered so: the files before are the same, and the bytes that it moved were added.
pub record Moved {E : Type 0} (written : Bool) (name bytes : List ℕ) (answer : Result ℕ E) (stage : Stage)
    (old new : Files) : Type 0 where
  pub at : IsAt written name (stage_after answer) new
  pub before : files_before (stage_after answer) new ≡ files_before stage old
  pub added : bytes_at (stage_after answer) new ≡ bytes_at stage old ++ moved bytes answer
  pub ended : is_ended stage ≡ true → is_ended (stage_after answer) ≡ true
  pub failed : is_failed stage ≡ true → is_failed (stage_after answer) ≡ true

-- the files once the device is let go: the use of a file that is open ends so
abbrev pub let_go : End → Stage → Files → Files
let_go end stages.Untouched files = files
let_go end stages.Open files = ended end files
let_go end stages.Ended files = files
let_go end stages.Failed files = files

-- how the writing of a file ended that was closed with this answer
abbrev pub closing : {T E : Type 0} → Files → Result T E → End
closing files (Ok closed) = end_of_close files
closing files (Err fault) = NotKept

-- the use of the file after a device, where it ended so, over the uses before it
abbrev pub uses_after : Option (List ℕ) → List ℕ → End → List Use → List Use
uses_after None bytes end before = before
uses_after (Some name) bytes end before = used name bytes end ∷ before

-- No file is open, and the newest use is that of the device with this history: it ended so.
abbrev pub used_as : End → History → Files
used_as end history = record history.origin.before {
  uses = uses_after history.origin.name history.bytes end history.origin.before.uses;
  current = None;
}

-- What the files show of a device that was let go, of a file that was written or read: it was read to its end; or its
-- use failed; or its use ended so, where it gave or took bytes, and otherwise the file was not touched.
pub record IsShown (written : Bool) (end : End) (history : History) (files : Files) : Type 0 where
  pub whole : 0 < history.ends → files ≡ used_as Whole history
  pub failed : 0 < history.failures
      → (failure : End) × IsFailure written history.bytes failure × (files ≡ used_as failure history)
  pub used : history.ends ≡ 0 → history.failures ≡ 0 → 0 < length history.bytes → files ≡ used_as end history
  pub untouched : history.ends ≡ 0 → history.failures ≡ 0 → history.bytes ≡ []
      → files ≡ history.origin.before
