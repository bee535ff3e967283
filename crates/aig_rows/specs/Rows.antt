-- What a numbered line of a file holds (AIGER report; AIGER 1.9 for resets and justice): a row of numbers, each in its
-- role.
use Rattle.std.specs.Prelude.{◌==◌, ℕ, List, [], ◌∷◌, slice_index, if◌then◌else◌}
use Rattle.aig_circuit.specs.declared.circuit.Reset.{Reset}
use Rattle.aig_circuit.specs.declared.circuit.Reset.TheVariants as resets
use Rattle.aig_circuit.specs.declared.circuit.Latch.{Latch}
use Rattle.aig_circuit.specs.declared.circuit.Gate.{Gate}
use Rattle.aig_circuit.specs.Literal.{literal_of, variable_of}
pub use Rattle.aig_rows.specs.declared.row.Role.{Role}
pub use Rattle.aig_rows.specs.declared.row.NextState.{NextState}
use Rattle.aig_rows.specs.declared.row.Role.TheVariants as roles
use Rattle.aig_lines.specs.Lines.{Line}
use Rattle.aig_rows.specs.Spelling.{IsNumberLine}

-- What a line of a section has to hold: a number for each role, of which those after the first may be left out down to
-- `least` of them. A number that is left out is 0.
pub record Form : Type 0 where
  pub first : Role
  pub others : List Role
  pub least : ℕ

-- the roles of all its numbers
abbrev pub roles_of : Form → List Role
roles_of form = form.first ∷ form.others

abbrev pub input_form : Form
input_form = record { first = roles.Definition; others = []; least = 0 }

-- the reset may be left out: it is then 0
abbrev pub latch_form : Form
latch_form = record { first = roles.Definition; others = roles.Literal ∷ roles.Reset ∷ []; least = 1 }

abbrev pub literal_form : Form
literal_form = record { first = roles.Literal; others = []; least = 0 }

abbrev pub size_form : Form
size_form = record { first = roles.Size; others = []; least = 0 }

abbrev pub gate_form : Form
gate_form = record { first = roles.Definition; others = roles.Literal ∷ roles.Literal ∷ []; least = 2 }

-- the number that says what a latch starts at: 0, 1, or its own literal where it is uninitialised
abbrev pub reset_number : ℕ → Reset → ℕ
reset_number own resets.Zero = 0
reset_number own resets.One = 1
reset_number own resets.Uninit = own

-- what a latch starts at by that number
abbrev pub reset_of : ℕ → Reset
reset_of n = if n == 0 then resets.Zero else if n == 1 then resets.One else resets.Uninit

-- the row of an input, a latch, a literal that is listed by itself, a size, a gate
abbrev pub input_row : ℕ → List ℕ
input_row variable = literal_of variable ∷ []

abbrev pub latch_row : Latch → List ℕ
latch_row l = literal_of l.var ∷ l.next ∷ reset_number (literal_of l.var) l.reset ∷ []

abbrev pub literal_row : ℕ → List ℕ
literal_row literal = literal ∷ []

abbrev pub size_row : ℕ → List ℕ
size_row size = size ∷ []

abbrev pub gate_row : Gate → List ℕ
gate_row g = literal_of g.var ∷ g.left ∷ g.right ∷ []

-- what a row tells
abbrev pub input_of : List ℕ → ℕ
input_of ns = variable_of (slice_index ns 0)

abbrev pub latch_of : List ℕ → Latch
latch_of ns = record {
  var = variable_of (slice_index ns 0);
  next = slice_index ns 1;
  reset = reset_of (slice_index ns 2);
}

abbrev pub literal_in : List ℕ → ℕ
literal_in ns = slice_index ns 0

abbrev pub size_of : List ℕ → ℕ
size_of ns = slice_index ns 0

abbrev pub gate_of : List ℕ → Gate
gate_of ns = record { var = variable_of (slice_index ns 0); left = slice_index ns 1; right = slice_index ns 2 }

-- the line of a latch in a binary file: its next literal, and its reset
abbrev pub next_form : Form
next_form = record { first = roles.Literal; others = roles.Reset ∷ []; least = 0 }

abbrev pub next_row : Latch → List ℕ
next_row l = l.next ∷ reset_number (literal_of l.var) l.reset ∷ []

abbrev pub next_of : List ℕ → NextState
next_of ns = record { next = slice_index ns 0; reset = reset_of (slice_index ns 1) }

-- a row and the form of its line
pub record Row : Type 0 where
  pub form : Form
  pub numbers : List ℕ

abbrev pub row : Form → List ℕ → Row
row form numbers = record { form = form; numbers = numbers }

-- The line holds the numbers of the row, where some may be left out as its form tells.
abbrev pub IsRowLine : Line → Row → Type 0
IsRowLine l row = IsNumberLine row.form.least l row.numbers
