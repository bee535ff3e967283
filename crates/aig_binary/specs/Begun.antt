-- A binary file of which some lines or gates were read (this project's profile).
use Rattle.std.specs.Prelude.{◌≡◌, ◌+◌, ◌-◌, ◌≤◌, ◌⊎◌, ℕ, List, [], ◌++◌, length, Result, Ok, Err, IfOk}
use Rattle.aig_circuit.specs.declared.circuit.Circuit.{Circuit}
use Rattle.aig_circuit.specs.declared.circuit.Gate.{Gate}
use Rattle.aig_core.specs.Names.{nothing_named}
use Rattle.aig_fault.specs.declared.stopped.Stopped.{Stopped}
use Rattle.aig_fault.specs.declared.kind.Kind.TheVariants as kinds
use Rattle.aig_lines.specs.Lines.{Ahead, HasNoLineFeed, bytes_of, lines_of}
use Rattle.aig_rows.specs.Reading.{◌>>=◌, Found, at_line}
use Rattle.aig_text.specs.declared.header_line.Header.{Header}
use Rattle.aig_text.specs.declared.section.Format.TheVariants.{Binary}
use Rattle.aig_text.specs.Begun.{HasAllLines, IsDone, IsValid, numbered_of, numbered_then}
use Rattle.aig_text.specs.Reading.{header_at, tail_at}
use Rattle.aig_binary.specs.declared.pieces.BinaryReader.{BinaryReader}
use Rattle.aig_binary.specs.BinaryGrammar.{binary_word}
use Rattle.aig_binary.specs.BinaryReading.{filled, gate_at, gates_at, with_definitions}

-- the header that the next line tells, where its definitions are all the variables
abbrev pub filled_header_at : ℕ → Ahead → Found Header
filled_header_at limit at = do
  header ← header_at binary_word limit at
  h ← at_line 1 (filled header.0)
  Ok (h, header.1)

-- what is read of gates, after those that were found before
abbrev pub gates_behind : List Gate → Result (List Gate × List ℕ) Stopped → Result (List Gate × List ℕ) Stopped
gates_behind found (Ok x) = Ok (found ++ x.0, x.1)
gates_behind found (Err e) = Err e

-- so many gates, of this variable and the next ones, of which these were found before
abbrev pub gates_from : ℕ → ℕ → List Gate → List ℕ → Result (List Gate × List ℕ) Stopped
gates_from variable count found bytes =
    let n = length found in
    gates_behind found (gates_at (variable + n) (n + 1) (count - n) bytes)

-- no gate is left, or the next one goes on after these bytes
abbrev pub NoneIsThere : ℕ → ℕ → List Gate → List ℕ → Type 0
NoneIsThere variable count found bytes =
    (length found ≡ count) ⊎ (gate_at (variable + length found) bytes ≡ Err kinds.Truncated)

-- the variable of the first gate
abbrev pub first_gate : Header → ℕ
first_gate h = 1 + h.inputs + h.latches

-- the circuit so far, completed by gates and tail
abbrev pub gates_then : Header → Circuit → List Gate → ℕ → List ℕ → Result Circuit Stopped
gates_then h c found n bytes = do
  gates ← gates_from (first_gate h) h.gates found bytes
  tail_at h nothing_named (with_definitions h gates.0 c) n (lines_of gates.1)

-- the same of the lines before them too
abbrev pub then_gates : List Gate → (Header × Circuit) × Ahead → Result Circuit Stopped
then_gates found x = gates_then x.0.0 x.0.1 found x.1.number (bytes_of x.1.lines)

abbrev pub binary_then : Result Header Stopped → Ahead → Result Circuit Stopped
binary_then header at = do
  found ← numbered_then Binary header at
  then_gates [] found

-- the circuit that the other bytes tell to a reader
abbrev pub rest_of : BinaryReader → List ℕ → Result Circuit Stopped
rest_of r bytes = do
  found ← numbered_of r.lines (lines_of bytes)
  then_gates r.gates found

-- no more gates were read than the header promises
abbrev pub IsWithin : BinaryReader → Type 0
IsWithin r = IsValid r.lines.header r.lines.progress × IfOk r.lines.header (λ h. length r.gates ≤ h.gates)

-- all lines and all gates were read
abbrev pub HasAllGates : BinaryReader → Type 0
HasAllGates r = HasAllLines r.lines × IfOk r.lines.header (λ h. length r.gates ≡ h.gates)

-- no line is there any more or else no gate; after a fault, no byte
abbrev pub LeavesNoGate : Result Header Stopped → List Gate → List ℕ → Type 0
LeavesNoGate (Ok h) found bytes = NoneIsThere (first_gate h) h.gates found bytes
LeavesNoGate (Err fault) found bytes = bytes ≡ []

abbrev pub AllIsTaken : BinaryReader → List ℕ → Type 0
AllIsTaken r bytes =
    (IsDone r.lines.progress × LeavesNoGate r.lines.header r.gates bytes)
    ⊎ HasNoLineFeed bytes
