-- What a text is read as, as a binary file, or its first fault (this project's profile): the first line or gate that
-- is not right for its place, with the first kind that applies. A binary file has no fault of structure.
use Rattle.std.specs.Prelude.{◌+◌, ◌-◌, ◌==◌, ◌&&◌, ◌||◌, ℕ, zero, suc, List, [], ◌∷◌, length, nat_lt, nat_le, Option}
use Rattle.std.specs.Prelude.{None, Some, Result, Ok, Err, if◌then◌else◌}
use Rattle.std.specs.List.{list_all, range_with_len}
use Rattle.aig_circuit.specs.declared.circuit.Gate.{Gate}
use Rattle.aig_circuit.specs.declared.circuit.Circuit.{Circuit}
use Rattle.aig_circuit.specs.Literal.{literal_of}
use Rattle.aig_core.specs.Names.{nothing_named}
use Rattle.aig_fault.specs.Stopping.{refusal}
use Rattle.aig_fault.specs.declared.fault.Place.TheVariants as places
use Rattle.aig_fault.specs.declared.kind.Kind.{Kind}
use Rattle.aig_fault.specs.declared.kind.Kind.TheVariants as kinds
use Rattle.aig_fault.specs.declared.stopped.Stopped.{Stopped}
use Rattle.aig_lines.specs.Lines.{Line, ahead, lines_of, bytes_of}
use Rattle.aig_text.specs.declared.header_line.Header.{Header}
use Rattle.aig_text.specs.Sections.{sections, in_binary}
use Rattle.aig_text.specs.Reading.{header_at, sections_at, empty_circuit, tail_at, fault_of}
use Rattle.aig_rows.specs.Reading.{◌>>=◌, at_line}
use Rattle.aig_binary.specs.BinaryGrammar.{binary_word}
use Rattle.aig_binary.specs.Delta.{delta_at}

-- the header, where its definitions are all the variables
abbrev pub filled : Header → Result Header Kind
filled h = if h.max_var == h.inputs + h.latches + h.gates then Ok h else Err kinds.BadHeader

-- Why no delta stands there. The file ends too early where fewer than five bytes are left, and none of them ends a
-- delta.
abbrev pub no_delta : List ℕ → Kind
no_delta bytes =
    if nat_lt (length bytes) 5 && list_all (λ b. nat_le 128 b) bytes then kinds.Truncated else kinds.BadDelta

-- what is left of a literal less the delta that was found, which is at least so much
abbrev pub lowered : ℕ → ℕ → Kind → Option (ℕ × List ℕ) → Result (ℕ × List ℕ) Kind
lowered from least otherwise None = Err otherwise
lowered from least otherwise (Some found) =
    if nat_lt found.0 least || nat_lt from found.0 then Err kinds.BadDelta else Ok (from - found.0, found.1)

unfoldable pub lowered_at : ℕ → ℕ → List ℕ → Result (ℕ × List ℕ) Kind
lowered_at from least bytes = lowered from least (no_delta bytes) (delta_at bytes)

-- the gate of this variable, and what follows it
unfoldable pub gate_at : ℕ → List ℕ → Result (Gate × List ℕ) Kind
gate_at variable bytes = do
  left ← lowered_at (literal_of variable) 1 bytes
  right ← lowered_at left.0 0 left.1
  Ok (record { var = variable; left = left.0; right = right.0 }, right.1)

-- what is read, or what is wrong at this gate
abbrev pub at_gate : {A : Type 0} → ℕ → Result A Kind → Result A Stopped
at_gate n (Ok x) = Ok x
at_gate n (Err kind) = Err (refusal kind (places.Gate n) 0)

-- so many gates, of this variable and the next ones; of these gates this is the number of the first
unfoldable pub gates_at : ℕ → ℕ → ℕ → List ℕ → Result (List Gate × List ℕ) Stopped
gates_at variable n zero bytes = Ok ([], bytes)
gates_at variable n (suc count) bytes = do
  first ← at_gate n (gate_at variable bytes)
  others ← gates_at (suc variable) (suc n) count first.1
  Ok (first.0 ∷ others.0, others.1)

-- the circuit with the definitions that no line tells
abbrev pub with_definitions : Header → List Gate → Circuit → Circuit
with_definitions h gates c = record c { inputs = range_with_len 1 h.inputs; gates = gates }

-- the circuit that the lines of a text tell, with the bytes of gates after the numbered ones
unfoldable pub binary_at : ℕ → List Line → Result Circuit Stopped
binary_at limit ls = do
  header ← header_at binary_word limit (ahead 1 ls)
  h ← at_line 1 (filled header.0)
  numbered ← sections_at in_binary h sections (empty_circuit h.max_var) header.1
  gates ← gates_at (1 + h.inputs + h.latches) 1 h.gates (bytes_of numbered.1.lines)
  tail_at h nothing_named (with_definitions h gates.0 numbered.0) numbered.1.number (lines_of gates.1)

abbrev pub binary_reading : ℕ → List ℕ → Result Circuit Stopped
binary_reading limit text = binary_at limit (lines_of text)

-- the first fault of a text, where it has one
abbrev pub first_binary_fault : ℕ → List ℕ → Option Stopped
first_binary_fault limit text = fault_of (binary_reading limit text)
