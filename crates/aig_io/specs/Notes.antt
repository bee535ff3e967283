-- Notes of calls, the newest first (this project's devices).
use Rattle.std.specs.Prelude.{◌+◌, ◌++◌, ◌∷◌, ℕ, List, [], slice_index}
use Rattle.aig_io.specs.Devices.{History, no_file}

-- a call by its number, and the bytes that it had
abbrev pub Note : Type 0
Note = ℕ × List ℕ

abbrev pub note_of : List ℕ → List ℕ → Note
note_of numbers bytes = (slice_index numbers 0, bytes)

-- the bytes of these calls
abbrev pub bytes_of : List Note → List ℕ
bytes_of [] = []
bytes_of (note ∷ earlier) = bytes_of earlier ++ note.1

-- the sum of their numbers
abbrev pub sum_of : List Note → ℕ
sum_of [] = 0
sum_of (note ∷ earlier) = sum_of earlier + note.0

-- what a stream gave or took that notes a 0 with the bytes of a call, and a 1 at its end
abbrev pub noted : List Note → ℕ → History
noted notes failures = record { origin = no_file; bytes = bytes_of notes; ends = sum_of notes; failures = failures }
