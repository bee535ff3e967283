-- Trace texts (this project's profile): a line for each step, and a line `.` after each run.
use Rattle.std.specs.Prelude.{◌≡◌, ◌++◌, ◌&&◌, ℕ, List, [], Bool, Option, codes, is_none, length, map, nat_lt}
use Rattle.std.specs.Prelude.{if◌then◌else◌}
use Rattle.std.specs.List.{AllZip, flat_map}
use Rattle.aig_circuit.specs.declared.circuit.Circuit.{Circuit}
use Rattle.aig_circuit.specs.declared.value.Val.{Val}
use Rattle.aig_circuit.specs.declared.value.Val.TheVariants.{Zero, One, X}
use Rattle.aig_meaning.specs.Meaning.{Row}
use Rattle.aig_meaning.specs.Trace.{IsTrace, reset_state}
use Rattle.aig_step.specs.declared.trace.Columns.{Columns}
use Rattle.aig_step.specs.declared.trace.Columns.TheVariants.{Plain, Properties}
use Rattle.aig_step.specs.Stimulus.{runs_of, stimulus}

-- the character of a value: `0`, `1` or `x`
abbrev pub character_of : Val → ℕ
character_of Zero = 48
character_of One = 49
character_of X = 120

abbrev pub values_text : List Val → List ℕ
values_text values = map character_of values

-- the columns of bad states and constraints, where they are asked for
abbrev pub properties_text : Columns → Row → List ℕ
properties_text Plain row = []
properties_text Properties row = codes " " ++ (values_text row.bad ++ (codes " " ++ values_text row.constraints))

-- the line of a step: state, inputs, outputs and next state, with a space between
abbrev pub row_text : Columns → Row → List ℕ
row_text columns row =
    values_text row.state ++ (codes " " ++ (values_text row.inputs ++ (codes " " ++ (values_text row.outputs
    ++ (codes " " ++ (values_text row.next ++ (properties_text columns row ++ codes "\n")))))))

abbrev pub rows_text : Columns → List Row → List ℕ
rows_text columns rows = flat_map (row_text columns) rows

-- the lines of a run that has ended
abbrev pub run_text : Columns → List Row → List ℕ
run_text columns rows = rows_text columns rows ++ codes ".\n"

-- A last run that no `.` ended is ended where the bytes have ended and no line is bad, if it has a step.
abbrev pub last_stop : Bool → Option ℕ → List (List Val) → List ℕ
last_stop ended bad run = if ended && is_none bad && nat_lt 0 (length run) then codes ".\n" else []

-- The trace text of the stimulus bytes that came, and of whether they have ended: each run is traced from the reset
-- state, up to the first bad line.
pub record IsTraceText (c : Circuit) (columns : Columns) (bytes : List ℕ) (ended : Bool) (text : List ℕ) : Type 0 where
  pub traces : List (List Row)
  pub last : List Row
  pub each : let said = stimulus (length c.inputs) bytes ended in
      AllZip (IsTrace c (reset_state c)) (runs_of said.entries).ended traces
  pub is_last : let said = stimulus (length c.inputs) bytes ended in
      IsTrace c (reset_state c) (runs_of said.entries).unended last
  pub is : let said = stimulus (length c.inputs) bytes ended in
      text ≡ flat_map (run_text columns) traces
      ++ (rows_text columns last ++ last_stop ended said.bad (runs_of said.entries).unended)
