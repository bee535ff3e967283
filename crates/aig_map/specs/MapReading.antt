-- What is read of the map block of a circuit in binary order, or what is wrong with it first (this project's profile).
use Rattle.std.specs.Prelude.{◌≡◌, ◌≤◌, ◌<◌, ◌+◌, ◌==◌, ◌&&◌, ℕ, zero, suc, List, [], ◌∷◌, length, Bool, nat_le, Option}
use Rattle.std.specs.Prelude.{None, Some, Result, Ok, Err, codes, if◌then◌else◌}
use Rattle.std.specs.Option.{unwrap_or}
use Rattle.std.specs.List.{AllByRecursion}
use Rattle.aig_circuit.specs.declared.circuit.TheConstants.{LARGEST}
use Rattle.aig_circuit.specs.Wellformed.{IsVariableUpTo}
use Rattle.aig_circuit.specs.declared.circuit.Circuit.{Circuit}
use Rattle.aig_fault.specs.Stopping.{fault_at}
use Rattle.aig_fault.specs.declared.fault.Fault.{Fault}
use Rattle.aig_fault.specs.declared.fault.Place.TheVariants.{MapLine, Whole}
use Rattle.aig_fault.specs.declared.kind.Kind.TheVariants as kinds
pub use Rattle.aig_rows.specs.Reading.{◌>>=◌}
use Rattle.aig_map.specs.declared.map_block.FirstLine.{FirstLine}
use Rattle.aig_map.specs.declared.map_block.MappedGate.{MappedGate}
use Rattle.aig_map.specs.declared.map_block.MapBlock.{MapBlock}
use Rattle.aig_map.specs.MapBlock.{last_line}
use Rattle.aig_map.specs.MapSpelling.{after_text, first_line_at, variable_at, gate_at}

-- this line of a block, counted from 1, is missing or not of its form
abbrev pub bad_line : ℕ → Fault
bad_line line = fault_at kinds.BadMapLine (MapLine line) 0

-- what is there, or this fault
abbrev pub or_else : {A : Type 0} → Fault → Option A → Result A Fault
or_else fault (Some x) = Ok x
or_else fault None = Err fault

-- what so many lines tell, from the line of this number on, and what follows them
unfoldable pub entries_at : {T : Type 0} → (List ℕ → Option (T × List ℕ)) → ℕ → ℕ → List ℕ
    → Result (List T × List ℕ) Fault
entries_at entry line zero bytes = Ok ([], bytes)
entries_at entry line (suc count) bytes = do
  first ← or_else (bad_line line) (entry bytes)
  others ← entries_at entry (line + 1) count first.1
  Ok (first.0 ∷ others.0, others.1)

-- the first line's counts are those of the circuit, and the largest index is not below their sum
abbrev pub counts_match : Circuit → FirstLine → Bool
counts_match x first =
    (first.inputs == length x.inputs) && ((first.latches == length x.latches) && ((first.gates == length x.gates)
    && nat_le (length x.inputs + length x.latches + length x.gates) first.max_var))

-- the first line, where it counts what the circuit has; and what follows it
unfoldable pub counted_line : Circuit → Result (FirstLine × List ℕ) Fault
counted_line x = do
  front ← or_else (fault_at kinds.NoMap Whole 0) (after_text (codes "aigmap ") (unwrap_or x.comment []))
  first ← or_else (bad_line 1) (first_line_at front)
  if counts_match x first.0 then Ok first else Err (fault_at kinds.MapMismatch Whole 0)

-- the block after the first line, and what follows it
unfoldable pub rest_of_block : FirstLine → List ℕ → Result (MapBlock × List ℕ) Fault
rest_of_block first bytes = do
  inputs ← entries_at (variable_at first.max_var) 2 first.inputs bytes
  latches ← entries_at (variable_at first.max_var) (2 + first.inputs) first.latches inputs.1
  gates ← entries_at (gate_at first.max_var first.gates) (2 + first.inputs + first.latches) first.gates latches.1
  rest ← or_else (bad_line (2 + first.inputs + first.latches + first.gates)) (after_text last_line gates.1)
  Ok (
    record {
      max_var = first.max_var;
      inputs = inputs.0;
      latches = latches.0;
      gates = gates.0;
      has_comment = first.has_comment;
    },
    rest,
  )

-- the block at the front of the circuit's comment, and the comment after it
unfoldable pub block_reading : Circuit → Result (MapBlock × List ℕ) Fault
block_reading x = do
  first ← counted_line x
  rest_of_block first.0 first.1

-- the block tells of as many inputs, latches and gates as the circuit has
pub record HasCountsOf (b : MapBlock) (x : Circuit) : Type 0 where
  pub inputs : length b.inputs ≡ length x.inputs
  pub latches : length b.latches ≡ length x.latches
  pub gates : length b.gates ≡ length x.gates

-- what a block tells is within bounds: variables up to its largest index, places below the count of gates
pub record IsWithinBounds (b : MapBlock) : Type 0 where
  pub max_var : b.max_var ≤ LARGEST
  pub counts : length b.inputs + length b.latches + length b.gates ≤ b.max_var
  pub inputs : AllByRecursion (IsVariableUpTo b.max_var) b.inputs
  pub latches : AllByRecursion (IsVariableUpTo b.max_var) b.latches
  pub gates : AllByRecursion (λ (g : MappedGate). IsVariableUpTo b.max_var g.var × (g.place < length b.gates)) b.gates
