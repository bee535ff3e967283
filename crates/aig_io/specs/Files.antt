-- What is done with the files of a system, one after the other (this project's files).
use Rattle.std.specs.Prelude.{ℕ, zero, suc, List, [], ◌∷◌, ◌++◌, Bool, true, false, not, if◌then◌else◌}
use Rattle.std.specs.Prelude.{Option, None, Some, Result, Ok, Err, take}

-- how the use of a file ended
pub data End : Type 0 where
  -- a file that was read: it gave all its bytes; it was left before its end; a read failed; it could not be opened
  Whole : End
  Left : End
  ReadFailed : End
  NotOpened : End
  -- a file that was made, or cut to nothing: it took its bytes and is closed; likewise, and it was synced before that;
  -- it could not be closed, and not all may be kept; a write failed; it could not be made, and is as it was
  Written : End
  Synced : End
  NotKept : End
  WriteFailed : End
  NotMade : End

-- a file was used: the bytes that it gave or took, and how that ended
pub record Use : Type 0 where
  pub name : List ℕ
  pub bytes : List ℕ
  pub end : End

-- the file that is open: whether it is written, and the bytes that it gave or took so far
pub record OpenFile : Type 0 where
  pub is_written : Bool
  pub name : List ℕ
  pub bytes : List ℕ

-- The uses of files so far, the newest first, the file that is open, and whether what is written is synced before it
-- is closed. No two are open at once.
pub record Files : Type 0 where
  pub uses : List Use
  pub current : Option OpenFile
  pub syncs : Bool

-- nothing was done with files yet
abbrev pub no_use : Files
no_use = record { uses = []; current = None; syncs = false }

abbrev pub used : List ℕ → List ℕ → End → Use
used name bytes end = record { name = name; bytes = bytes; end = end }

abbrev pub read_now : List ℕ → List ℕ → OpenFile
read_now name bytes = record { is_written = false; name = name; bytes = bytes }

abbrev pub written_now : List ℕ → List ℕ → OpenFile
written_now name bytes = record { is_written = true; name = name; bytes = bytes }

-- it gave or took more bytes
abbrev pub with_more : List ℕ → Option OpenFile → Option OpenFile
with_more more None = None
with_more more (Some file) = Some (record file { bytes = file.bytes ++ more })

-- the use of the open file ended
abbrev pub uses_with : End → Option OpenFile → List Use → List Use
uses_with end None uses = uses
uses_with end (Some file) uses = used file.name file.bytes end ∷ uses

abbrev pub ended : End → Files → Files
ended end files = record files { uses = uses_with end files.current files.uses; current = None }

-- a use that was over at once
abbrev pub refused : List ℕ → End → Files → Files
refused name end files = record files { uses = used name [] end ∷ files.uses }

-- after each call, by its answer
abbrev pub after_open : {T E : Type 0} → List ℕ → Result T E → Files → Files
after_open name (Ok opened) files = record files { current = Some (read_now name []) }
after_open name (Err fault) files = refused name NotOpened files

abbrev pub after_read : {E : Type 0} → List ℕ → Result ℕ E → Files → Files
after_read into (Ok zero) files = ended Whole files
after_read into (Ok (suc n)) files = record files { current = with_more (take (suc n) into) files.current }
after_read into (Err fault) files = ended ReadFailed files

abbrev pub after_create : {T E : Type 0} → List ℕ → Result T E → Files → Files
after_create name (Ok made) files = record files { current = Some (written_now name []) }
after_create name (Err fault) files = refused name NotMade files

abbrev pub after_write : {E : Type 0} → List ℕ → Result ℕ E → Files → Files
after_write bytes (Ok n) files = record files { current = with_more (take n bytes) files.current }
after_write bytes (Err fault) files = ended WriteFailed files

-- from now on what is written is synced
abbrev pub with_sync : Files → Files
with_sync files = record files { syncs = true }

-- how the use of a file ends that took its bytes and is closed
abbrev pub end_of_close : Files → End
end_of_close files = if files.syncs then Synced else Written

abbrev pub after_close : {T E : Type 0} → Result T E → Files → Files
after_close (Ok closed) files = ended (end_of_close files) files
after_close (Err fault) files = ended NotKept files

-- whether a file is open to be read, or to be written
abbrev pub is_read : Option OpenFile → Bool
is_read None = false
is_read (Some file) = not file.is_written

abbrev pub is_written : Option OpenFile → Bool
is_written None = false
is_written (Some file) = file.is_written
