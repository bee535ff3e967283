-- Devices in memory, as their callers see them (this project's devices).
use Rattle.std.specs.Prelude.{◌-◌, ◌==◌, ℕ, List, Bool, false, Option, None, Some, min, max, length}
use Rattle.std.specs.Prelude.{Err, Ok, Result, drop, if◌then◌else◌}
use Rattle.aig_io.specs.Devices.{History, after_fetch, after_send, no_file, unused}
use Rattle.aig_io.specs.declared.device.DeviceFault.{DeviceFault}

-- `coming` are the bytes that it still gives, at most `piece` in a call; `fails_in` counts the calls before the one
-- that fails
pub record SourceInMemory : Type 0 where
  pub history : History
  pub coming : List ℕ
  pub piece : ℕ
  pub fails_in : Option ℕ

-- it has room for `room` more bytes, and takes at most `piece` in a call; `longest` is the longest slice that it was
-- handed
pub record SinkInMemory : Type 0 where
  pub history : History
  pub room : ℕ
  pub piece : ℕ
  pub longest : ℕ
  pub fails_in : Option ℕ

-- the calls before the call of this number, counted from 1; there is no call of number 0
abbrev pub calls_before : ℕ → Option ℕ
calls_before number = if number == 0 then None else Some (number - 1)

-- this call is the one that fails
abbrev pub is_due : Option ℕ → Bool
is_due None = false
is_due (Some calls) = calls == 0

-- after one more call; only one call fails
abbrev pub one_call_later : Option ℕ → Option ℕ
one_call_later None = None
one_call_later (Some calls) = calls_before calls

-- how many bytes a call moved that answered so
abbrev pub moved : Result ℕ DeviceFault → ℕ
moved (Ok count) = count
moved (Err fault) = 0

abbrev pub new_source : List ℕ → ℕ → ℕ → SourceInMemory
new_source bytes piece fails_at =
    record { history = unused no_file; coming = bytes; piece = piece; fails_in = calls_before fails_at }

-- how many bytes a call gives that does not fail
abbrev pub given : SourceInMemory → ℕ → ℕ
given s room = min (min s.piece room) (length s.coming)

-- after a fetch into these bytes that answered so
abbrev pub source_after : List ℕ → Result ℕ DeviceFault → SourceInMemory → SourceInMemory
source_after into answer s = record s {
  history = after_fetch into answer s.history;
  coming = drop (moved answer) s.coming;
  fails_in = one_call_later s.fails_in;
}

abbrev pub new_sink : ℕ → ℕ → ℕ → SinkInMemory
new_sink room piece fails_at =
    record { history = unused no_file; room = room; piece = piece; longest = 0; fails_in = calls_before fails_at }

-- how many of the bytes a call takes that does not fail
abbrev pub accepted : SinkInMemory → List ℕ → ℕ
accepted s bytes = min (min s.piece (length bytes)) s.room

-- after a send of these bytes that answered so
abbrev pub sink_after : List ℕ → Result ℕ DeviceFault → SinkInMemory → SinkInMemory
sink_after bytes answer s = record s {
  history = after_send bytes answer s.history;
  room = s.room - moved answer;
  longest = max s.longest (length bytes);
  fails_in = one_call_later s.fails_in;
}
