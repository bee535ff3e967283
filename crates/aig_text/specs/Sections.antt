-- What a file lists (AIGER report; AIGER 1.9 for bad states, constraints, justice and fairness): a section for each
-- kind of thing, and in it a row for each thing.
use Rattle.std.specs.Prelude.{◌+◌, ◌++◌, ℕ, suc, List, [], ◌∷◌, map, length, slice_index, codes}
use Rattle.std.specs.List.{flat_map, sum}
use Rattle.aig_circuit.specs.declared.circuit.Latch.{Latch}
use Rattle.aig_circuit.specs.declared.circuit.Circuit.{Circuit}
use Rattle.aig_circuit.specs.Literal.{literal_of}
pub use Rattle.aig_text.specs.declared.header_line.Header.{Header}
pub use Rattle.aig_text.specs.declared.section.Format.{Format}
use Rattle.aig_text.specs.declared.section.Format.TheVariants.{Ascii, Binary}
pub use Rattle.aig_text.specs.declared.section.Section.{Section}
use Rattle.aig_text.specs.declared.section.Section.TheVariants.{Inputs, Latches, Outputs, Bad, Constraints}
use Rattle.aig_text.specs.declared.section.Section.TheVariants.{JusticeSizes, JusticeLiterals, Fairness, Gates}
use Rattle.aig_rows.specs.Rows.{Form, Row, gate_form, gate_of, gate_row, input_form, input_of, input_row, latch_form}
use Rattle.aig_rows.specs.Rows.{latch_of, latch_row, literal_form, literal_in, literal_row, next_form, next_row}
use Rattle.aig_rows.specs.Rows.{reset_of, row, size_form, size_of, size_row}

-- the first word of an ASCII file
abbrev pub ascii_word : List ℕ
ascii_word = codes "aag"

-- how many numbers a header has at most (AIGER 1.9), and how many of them are never left out (AIGER report)
abbrev pub most_header_numbers : ℕ
most_header_numbers = 9

abbrev pub least_header_numbers : ℕ
least_header_numbers = 5

-- the sections, in the order of the file
abbrev pub sections : List Section
sections =
    Inputs ∷ Latches ∷ Outputs ∷ Bad ∷ Constraints ∷ JusticeSizes ∷ JusticeLiterals ∷ Fairness ∷ Gates ∷ []

-- How the lines of a file list a section: their form, what their literals or their sizes may go up to, the number that
-- the first row is judged beside and how many they are where the header and what was read before them are these, the
-- rows that a circuit has there, and what such rows make of what was read before.
pub record Listed : Type 0 where
  pub form : Form
  pub bound : Header → ℕ
  pub start : Header → Circuit → ℕ
  pub count : Header → Circuit → ℕ
  pub rows : Circuit → List (List ℕ)
  pub with_rows : Header → List (List ℕ) → Circuit → Circuit

-- a circuit with these sizes, or these literals, of its justice properties
abbrev pub with_sizes : List ℕ → Circuit → Circuit
with_sizes sizes c = record c { justice = record { sizes = sizes; literals = c.justice.literals } }

abbrev pub with_justice_literals : List ℕ → Circuit → Circuit
with_justice_literals literals c = record c { justice = record { sizes = c.justice.sizes; literals = literals } }

-- a section of entries, where these are the row of each and what a row tells, and a circuit has this list of them and
-- another one makes it this circuit
abbrev pub entries_listed : {X : Type 0} → Form → (X → List ℕ) → (List ℕ → X) → (Header → Circuit → ℕ)
    → (Circuit → List X) → (List X → Circuit → Circuit) → Listed
entries_listed form row_of_entry entry_of count list with_list = record {
  form = form;
  bound = λ h. h.max_var;
  start = λ h c. 0;
  count = count;
  rows = λ c. map row_of_entry (list c);
  with_rows = λ h rows c. with_list (list c ++ map entry_of rows) c;
}

-- a section of literals, one on each line
abbrev pub literals_listed : (Header → Circuit → ℕ) → (Circuit → List ℕ) → (List ℕ → Circuit → Circuit) → Listed
literals_listed = entries_listed literal_form literal_row literal_in

-- each section in an ASCII file
abbrev pub in_ascii : Section → Listed
in_ascii Inputs =
    entries_listed input_form input_row input_of (λ h c. h.inputs) (λ c. c.inputs) (λ vs c. record c { inputs = vs })
in_ascii Latches =
    entries_listed latch_form latch_row latch_of (λ h c. h.latches) (λ c. c.latches) (λ ls c. record c { latches = ls })
in_ascii Outputs = literals_listed (λ h c. h.outputs) (λ c. c.outputs) (λ ls c. record c { outputs = ls })
in_ascii Bad = literals_listed (λ h c. h.bad) (λ c. c.bad) (λ ls c. record c { bad = ls })
in_ascii Constraints =
    literals_listed (λ h c. h.constraints) (λ c. c.constraints) (λ ls c. record c { constraints = ls })
in_ascii JusticeSizes =
    record (entries_listed size_form size_row size_of (λ h c. h.justice) (λ c. c.justice.sizes) with_sizes) {
      bound = λ h. h.limit;
      start = λ h c. sum c.justice.sizes;
    }
in_ascii JusticeLiterals =
    literals_listed (λ h c. sum c.justice.sizes) (λ c. c.justice.literals) with_justice_literals
in_ascii Fairness = literals_listed (λ h c. h.fairness) (λ c. c.fairness) (λ ls c. record c { fairness = ls })
in_ascii Gates =
    entries_listed gate_form gate_row gate_of (λ h c. h.gates) (λ c. c.gates) (λ gs c. record c { gates = gs })

-- a section without lines
abbrev pub no_lines : Listed
no_lines = record {
  form = literal_form;
  bound = λ h. 0;
  start = λ h c. 0;
  count = λ h c. 0;
  rows = λ c. [];
  with_rows = λ h rows c. c;
}

-- latches of this variable and the next ones, by those rows
unfoldable pub latches_from : ℕ → List (List ℕ) → List Latch
latches_from variable [] = []
latches_from variable (row ∷ rows) =
    record { var = variable; next = slice_index row 0; reset = reset_of (slice_index row 1) }
    ∷ latches_from (suc variable) rows

-- the variable after this one and those of so many latches
abbrev pub variable_after : ℕ → List Latch → ℕ
variable_after variable [] = variable
variable_after variable (l ∷ ls) = variable_after (suc variable) ls

-- each section in a binary file: its inputs are the first variables, its latches the next ones, and its gates are no
-- lines
abbrev pub in_binary : Section → Listed
in_binary Inputs = no_lines
in_binary Latches = record {
  form = next_form;
  bound = λ h. h.max_var;
  start = λ h c. literal_of (1 + h.inputs);
  count = λ h c. h.latches;
  rows = λ c. map next_row c.latches;
  with_rows = λ h rows c.
      record c { latches = c.latches ++ latches_from (variable_after (1 + h.inputs) c.latches) rows };
}
in_binary Outputs = in_ascii Outputs
in_binary Bad = in_ascii Bad
in_binary Constraints = in_ascii Constraints
in_binary JusticeSizes = in_ascii JusticeSizes
in_binary JusticeLiterals = in_ascii JusticeLiterals
in_binary Fairness = in_ascii Fairness
in_binary Gates = no_lines

-- each section in a file of this kind
abbrev pub listed_in : Format → Section → Listed
listed_in Ascii = in_ascii
listed_in Binary = in_binary

-- the rows of these sections
abbrev pub rows_in : (Section → Listed) → List Section → Circuit → List Row
rows_in listed ss c = flat_map (λ s. map (row (listed s).form) ((listed s).rows c)) ss

-- the rows of all sections, in the order of the file
abbrev pub listed_rows : (Section → Listed) → Circuit → List Row
listed_rows listed c = rows_in listed sections c

-- the rows of an ASCII file
abbrev pub rows_of : Circuit → List Row
rows_of c = listed_rows in_ascii c

-- the rows of the sections between latches and gates, which ASCII and binary files list alike
abbrev pub literal_rows_of : Circuit → List Row
literal_rows_of c = rows_in in_ascii (Outputs ∷ Bad ∷ Constraints ∷ JusticeSizes ∷ JusticeLiterals ∷ Fairness ∷ []) c

-- the numbers of the header: the largest index, and the counts
abbrev pub header_row : Circuit → List ℕ
header_row c =
    c.max_var ∷ length c.inputs ∷ length c.latches ∷ length c.outputs ∷ length c.gates ∷ length c.bad
    ∷ length c.constraints ∷ length c.justice.sizes ∷ length c.fairness ∷ []
