-- Rows of which the first were read, while more lines may come (this project's profile).
use Rattle.std.specs.Prelude.{◌≡◌, ◌-◌, ◌≤◌, ◌++◌, ℕ, List, [], ◌∷◌, map, slice_index, Ok}
use Rattle.aig_lines.specs.Lines.{Ahead}
use Rattle.aig_rows.specs.Rows.{Role, Form}
use Rattle.aig_rows.specs.Reading.{carried_on, rows_at}
use Rattle.aig_rows.specs.declared.rows.Due.{Due}

-- what is carried on after rows
abbrev pub carried_over : Role → ℕ → List (List ℕ) → ℕ
carried_over role carried [] = carried
carried_over role carried (ns ∷ rows) = carried_over role (carried_on role carried (slice_index ns 0)) rows

-- these are the first of the rows that were due, and the others are due now
pub record AreFirst (form : Form) (bound : ℕ) (due left : Due) (at now : Ahead) (rows : List (List ℕ)) : Type 0 where
  pub fewer : left.count ≤ due.count
  pub read : rows_at form bound due.carried (due.count - left.count) at ≡ Ok (rows, now)
  pub carried : left.carried ≡ carried_over form.first due.carried rows

-- what they mean stands after what was found before
pub record HaveRead {A : Type 0} (tell : List ℕ → A) (form : Form) (bound : ℕ) (due left : Due) (before found : List A)
    (at now : Ahead) : Type 0 where
  pub rows : List (List ℕ)
  pub first : AreFirst form bound due left at now rows
  pub meant : found ≡ before ++ map tell rows
