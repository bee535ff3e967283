-- Bytes of values, and what a step puts among them.
use Rattle.std.specs.Prelude.{◌≤◌, ◌==◌, ◌+◌, ◌/◌, ◌++◌, drop, length, map, ℕ, suc, List, [], ◌∷◌, slice_index}
use Rattle.std.specs.Prelude.{slice_set, if◌then◌else◌}
use Rattle.aig_circuit.specs.declared.circuit.Latch.{Latch}
use Rattle.aig_circuit.specs.declared.value.Val.{Val}
use Rattle.aig_circuit.specs.declared.value.Val.TheVariants.{Zero, One, X}
use Rattle.aig_circuit.specs.Values.{value_and}
use Rattle.aig_meaning.specs.Meaning.{literal_value}
use Rattle.aig_array_steps.specs.Parts.Words.{SectionWords, latches_in}
use Rattle.aig_array_steps.specs.Step.{given_length, value_byte}
use Rattle.aig_arrays.specs.declared.counts.Counts.{Counts}

-- the value of a byte
abbrev pub value_of_byte : ℕ → Val
value_of_byte byte = if byte == 0 then Zero else if byte == 1 then One else X

-- the value of a variable by a table of bytes
abbrev pub value_in : List ℕ → ℕ → Val
value_in table variable = value_of_byte (slice_index table variable)

-- the byte of the value of a literal
abbrev pub literal_byte : List ℕ → ℕ → ℕ
literal_byte table literal = value_byte (literal_value (value_in table) literal)

-- bytes that begin with those of literals and of the next states of latches, by this table
abbrev pub shown_by : (table : List ℕ) (s : SectionWords) (before : List ℕ) → List ℕ
shown_by table s before =
    map (literal_byte table) s.shown ++ map (λ (l : Latch). literal_byte table l.next) (latches_in s.latches)
    ++ drop (length s.shown + length s.latches / 3) before

-- each byte is that of a value
abbrev pub AreValues : List ℕ → Type 0
AreValues table = (variable : ℕ) → slice_index table variable ≤ 2

-- each byte that is given is that of a value
abbrev pub AreGiven : Counts → List ℕ → Type 0
AreGiven n values = (place : ℕ) → 1 ≤ place → place ≤ given_length n → slice_index values place ≤ 2

-- the byte of a gate with these operands
abbrev pub gate_byte : List ℕ → ℕ → ℕ → ℕ
gate_byte table left right =
    value_byte (value_and (literal_value (value_in table) left) (literal_value (value_in table) right))

-- the table with the values of the gates of these words, whose variables are this one and the next ones
unfoldable pub with_gates : ℕ → List ℕ → List ℕ → List ℕ
with_gates variable [] table = table
with_gates variable (own ∷ []) table = table
with_gates variable (own ∷ left ∷ []) table = table
with_gates variable (own ∷ left ∷ right ∷ words) table =
    with_gates (suc variable) words (slice_set table variable (gate_byte table left right))

-- the table with the constant and the values of gates, where it has those of inputs and latches
abbrev pub filled : Counts → SectionWords → List ℕ → List ℕ
filled n s table = with_gates (1 + n.inputs + n.latches) s.gates (slice_set table 0 0)
