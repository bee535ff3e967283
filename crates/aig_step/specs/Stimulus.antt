-- Stimulus texts (this project's profile). A line has one character for each input and is a step; a line `.` ends a
-- run.
use Rattle.std.specs.Prelude.{ℕ, suc, List, [], ◌∷◌, ◌==◌, Bool, Option, None, Some, codes, length}
use Rattle.std.specs.Prelude.{option_and_then, option_map, if◌then◌else◌}
use Rattle.std.specs.Str.{bytes_eq}
use Rattle.aig_circuit.specs.declared.value.Val.{Val}
use Rattle.aig_circuit.specs.declared.value.Val.TheVariants.{Zero, One, X}
use Rattle.aig_lines.specs.Lines.{Line}
pub use Rattle.aig_lines.specs.Texts.{judged_lines, text_of, without_return}

-- the value that a character stands for: `0`, `1` or `x`
abbrev pub value_of : ℕ → Option Val
value_of byte = if byte == 48 then Some Zero else if byte == 49 then Some One else if byte == 120 then Some X else None

-- the values that characters stand for, where each of them stands for one
abbrev pub values_of : List ℕ → Option (List Val)
values_of [] = Some []
values_of (b ∷ bs) = option_and_then (λ v. option_map (λ vs. v ∷ vs) (values_of bs)) (value_of b)

-- what a line says: the inputs of a step, or that the run ends
pub data Entry : Type 0 where
  Step : List Val → Entry
  Stop : Entry

-- what a text says, where the circuit has so many inputs
abbrev pub entry_in : ℕ → List ℕ → Option Entry
entry_in inputs text =
    if bytes_eq text (codes ".") then Some Stop
    else if length text == inputs then option_map Step (values_of text)
    else None

-- what a line says, where it is not bad
abbrev pub entry_of : ℕ → Line → Option Entry
entry_of inputs l = entry_in inputs (text_of l)

-- what lines say up to the first bad one, and the number of that, where there is one
pub record Stimulus : Type 0 where
  pub entries : List Entry
  pub bad : Option ℕ

abbrev pub with_entry : Entry → Stimulus → Stimulus
with_entry entry s = record { entries = entry ∷ s.entries; bad = s.bad }

abbrev pub bad_at : ℕ → Stimulus
bad_at number = record { entries = []; bad = Some number }

abbrev pub no_lines : Stimulus
no_lines = record { entries = []; bad = None }

-- what a line of this number and those after it say
abbrev pub before_rest : ℕ → Option Entry → Stimulus → Stimulus
before_rest number None rest = bad_at number
before_rest number (Some entry) rest = with_entry entry rest

-- what lines say, the first of which has this number
abbrev pub lines_say : ℕ → ℕ → List Line → Stimulus
lines_say inputs number [] = no_lines
lines_say inputs number (l ∷ ls) = before_rest number (entry_of inputs l) (lines_say inputs (suc number) ls)

-- what the bytes say that came, where the circuit has so many inputs, and they have ended or not
abbrev pub stimulus : ℕ → List ℕ → Bool → Stimulus
stimulus inputs bytes ended = lines_say inputs 1 (judged_lines bytes ended)

-- the vectors of each run that a `.` ended, and of the run that none ended
pub record Runs : Type 0 where
  pub ended : List (List (List Val))
  pub unended : List (List Val)

abbrev pub with_step : List Val → List (List (List Val)) → List (List Val) → Runs
with_step vector [] unended = record { ended = []; unended = vector ∷ unended }
with_step vector (run ∷ runs) unended = record { ended = (vector ∷ run) ∷ runs; unended = unended }

-- the entries, cut into runs
abbrev pub runs_of : List Entry → Runs
runs_of [] = record { ended = []; unended = [] }
runs_of (Step vector ∷ entries) = let rest = runs_of entries in with_step vector rest.ended rest.unended
runs_of (Stop ∷ entries) = let rest = runs_of entries in record { ended = [] ∷ rest.ended; unended = rest.unended }
