-- What the definitions of this crate say of one another.
use Rattle.std.specs.Prelude.{◌≡◌, ◌≤◌, ◌↔◌, ℕ, List, length, Some, Result, Err}
use Rattle.aig_fault.specs.declared.kind.Kind.{Kind}
use Rattle.aig_fault.specs.declared.kind.Kind.TheVariants as kinds
use Rattle.aig_lines.specs.Lines.{Line}
use Rattle.aig_rows.specs.Rows.{Form, roles_of, row, IsRowLine}
use Rattle.aig_rows.specs.Scanning.{numbers_at}
use Rattle.aig_rows.specs.Reading.{fault_in_row, unless_wrong, row_of}

-- the line holds these numbers as a row of this form, and none is missing
abbrev pub HoldsRow : Form → Line → List ℕ → Type 0
HoldsRow form l ns = IsRowLine l (row form ns) × (length ns ≡ length (roles_of form))

-- a form does not ask for more numbers than it has places
abbrev pub CanBeMet : Form → Type 0
CanBeMet form = form.least ≤ length form.others

-- from left to right the numbers of a row are read exactly where the line holds that row
abbrev pub RowsReadExactly : Type 0
RowsReadExactly =
    (form : Form) (l : Line) (ns : List ℕ) → CanBeMet form
    → (numbers_at l.ended form.least (length form.others) l.text ≡ Some ns) ↔ HoldsRow form l ns

-- what is read of a line is what the thing that it holds is judged to be, and this fault where it holds nothing
pub record IsJudged {A B : Type 0} (Holds : A → Type 0) (judge : A → Result B Kind) (otherwise : Kind)
    (read : Result B Kind) : Type 0 where
  pub held : (x : A) → Holds x → read ≡ judge x
  pub empty : ¬ ((x : A) × Holds x) → read ≡ Err otherwise

-- where a row is due: a line without one is a bad line; else its numbers are judged, beside what is carried, and
-- nothing else of the line
abbrev pub RowsAreJudged : Type 0
RowsAreJudged =
    (form : Form) (bound carried : ℕ) (l : Line) → CanBeMet form
    → IsJudged (HoldsRow form l) (λ ns. unless_wrong ns (fault_in_row form bound carried ns)) kinds.BadLine
    (row_of form bound carried l)
