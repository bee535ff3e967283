-- What a source gave and a sink took, whatever they are (this project's devices).
use Rattle.std.specs.Prelude.{◌≡◌, ◌+◌, ◌++◌, ℕ, zero, suc, List, [], Bool, true, false, take}
use Rattle.std.specs.Prelude.{Option, None, Result, Ok, Err}
use base.Stored.{Gv, gnil}
use Rattle.aig_io.specs.Files.{Files, no_use}
use Rattle.aig_io.specs.declared.transfer.ReadError.{ReadError}
use Rattle.aig_io.specs.declared.transfer.ReadError.TheVariants as errors

-- Where a device comes from: the borrow of the files or of the device that it holds, the file's name, and the files
-- before its use; and, in the code of the kit, what else it stands on. A stream has nothing of this, and a file stands
-- on nothing else.
pub record Origin : Type 0 where
  pub lender : ℕ
  pub name : Option (List ℕ)
  pub before : Files
  pub stands_on : Gv

abbrev pub no_file : Origin
no_file = record { lender = 0; name = None; before = no_use; stands_on = gnil }

-- A device's history: the bytes that it gave or took since it was made, how often it answered that it is at its end,
-- and how often it failed. Each call of it changes one of these.
pub record History : Type 0 where
  pub origin : Origin
  pub bytes : List ℕ
  pub ends : ℕ
  pub failures : ℕ

-- no call was made yet
abbrev pub unused : Origin → History
unused origin = record { origin = origin; bytes = []; ends = 0; failures = 0 }

-- how many bytes a sink is handed at most in one slice
abbrev pub block_size : ℕ
block_size = 8192

-- after a fetch into these bytes that answered so
abbrev pub after_fetch : {E : Type 0} → List ℕ → Result ℕ E → History → History
after_fetch into (Ok zero) history = record history { ends = history.ends + 1 }
after_fetch into (Ok (suc n)) history = record history { bytes = history.bytes ++ take (suc n) into }
after_fetch into (Err fault) history = record history { failures = history.failures + 1 }

-- after a send of these bytes that answered so
abbrev pub after_send : {E : Type 0} → List ℕ → Result ℕ E → History → History
after_send bytes (Ok n) history = record history { bytes = history.bytes ++ take n bytes }
after_send bytes (Err fault) history = record history { failures = history.failures + 1 }

-- it gave these bytes, and answered that it is at its end
abbrev pub gave_all : List ℕ → History → History
gave_all bytes history = record history { bytes = history.bytes ++ bytes; ends = history.ends + 1 }

-- it took these bytes
abbrev pub took : List ℕ → History → History
took bytes history = record history { bytes = history.bytes ++ bytes }

-- it gave these bytes, and answered that it is at its end, or it did not so far
abbrev pub gave : List ℕ → Bool → History → History
gave bytes true history = gave_all bytes history
gave bytes false history = took bytes history

-- it failed
abbrev pub failed_once : History → History
failed_once history = record history { failures = history.failures + 1 }

-- It gave some bytes, and reading it failed so: it failed itself; or memory was refused, before its end or after it.
abbrev pub GaveSome : ReadError → (before after : History) → Type 0
GaveSome errors.Source before after = (bytes : List ℕ) × (after ≡ failed_once (took bytes before))
GaveSome errors.OutOfMemory before after = (bytes : List ℕ) × (ended : Bool) × (after ≡ gave bytes ended before)

-- it took a beginning of these bytes, and failed
pub record TookBeginning (bytes : List ℕ) (before after : History) : Type 0 where
  pub count : ℕ
  pub history : after ≡ failed_once (took (take count bytes) before)
