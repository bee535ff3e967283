-- The lines of a map block, read from left to right (this project's profile): canonical numbers with single spaces
-- between them, and a line feed.
use Rattle.std.specs.Prelude.{◌==◌, ◌&&◌, ℕ, List, length, take, drop, Bool, nat_le, nat_lt, Option, None, Some}
use Rattle.std.specs.Prelude.{if◌then◌else◌}
use Rattle.std.specs.Str.{bytes_eq}
use Rattle.aig_circuit.specs.declared.circuit.TheConstants.{LARGEST}
use Rattle.aig_rows.specs.Scanning.{◌>>=◌}
use Rattle.aig_rows.specs.CanonicalNumber.{canonical_before}
use Rattle.aig_map.specs.declared.map_block.FirstLine.{FirstLine}
use Rattle.aig_map.specs.declared.map_block.MappedGate.{MappedGate}

-- what follows a text
abbrev pub after_text : List ℕ → List ℕ → Option (List ℕ)
after_text text bytes = if bytes_eq (take (length text) bytes) text then Some (drop (length text) bytes) else None

-- a number with others after it, and what follows its space
abbrev pub number_at : List ℕ → Option (ℕ × List ℕ)
number_at bytes = canonical_before 32 bytes

-- the last number of a line, and what follows the line
abbrev pub last_number_at : List ℕ → Option (ℕ × List ℕ)
last_number_at bytes = canonical_before 10 bytes

-- The numbers of the first line: its version is 1, and only the largest index has a bound here.
unfoldable pub first_line_at : List ℕ → Option (FirstLine × List ℕ)
first_line_at bytes = do
  version ← number_at bytes
  max_var ← number_at version.1
  inputs ← number_at max_var.1
  latches ← number_at inputs.1
  gates ← number_at latches.1
  comment ← last_number_at gates.1
  if (version.0 == 1) && (nat_le max_var.0 LARGEST && nat_le comment.0 1) then Some (
    record {
      max_var = max_var.0;
      inputs = inputs.0;
      latches = latches.0;
      gates = gates.0;
      has_comment = comment.0 == 1;
    },
    comment.1,
  ) else None

-- a number that a variable may have, up to the largest
abbrev pub is_variable : ℕ → ℕ → Bool
is_variable max_var v = nat_le 1 v && nat_le v max_var

-- the line of an input or a latch
unfoldable pub variable_at : ℕ → List ℕ → Option (ℕ × List ℕ)
variable_at max_var bytes = do
  variable ← last_number_at bytes
  if is_variable max_var variable.0 then Some variable else None

-- the line of one of so many gates
unfoldable pub gate_at : ℕ → ℕ → List ℕ → Option (MappedGate × List ℕ)
gate_at max_var count bytes = do
  variable ← number_at bytes
  place ← number_at variable.1
  exchanged ← last_number_at place.1
  if is_variable max_var variable.0 && (nat_lt place.0 count && nat_le exchanged.0 1) then Some (
    record {
      var = variable.0;
      place = place.0;
      exchanged = exchanged.0 == 1;
    },
    exchanged.1,
  ) else None
