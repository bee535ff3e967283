-- What a line of numbers is read as, or what is wrong with it (this project's profile).
use Rattle.std.specs.Prelude.{◌+◌, ◌*◌, ◌%◌, ◌==◌, ◌||◌, ℕ, not, zero, suc, List, [], ◌∷◌, length, slice_index, Bool}
use Rattle.std.specs.Prelude.{false, nat_lt, Option, None, Some, Result, Ok, Err, if◌then◌else◌}
use Rattle.std.specs.List.{list_any, zip}
use Rattle.aig_fault.specs.Stopping.{refusal}
use Rattle.aig_fault.specs.declared.fault.Place.TheVariants as places
use Rattle.aig_fault.specs.declared.kind.Kind.{Kind}
use Rattle.aig_fault.specs.declared.kind.Kind.TheVariants as kinds
use Rattle.aig_fault.specs.declared.stopped.Stopped.{Stopped}
use Rattle.aig_lines.specs.Lines.{Line, Ahead, ahead}
use Rattle.aig_rows.specs.Scanning.{numbers_at}
use Rattle.aig_rows.specs.Rows.{Role, Form, roles_of}
use Rattle.aig_rows.specs.declared.row.Role.TheVariants as roles

infixl 10 ◌>>=◌
abbrev pub ◌>>=◌ : {A B E : Type 0} → Result A E → (A → Result B E) → Result B E
(Ok x) >>= f = f x
(Err e) >>= f = Err e

abbrev pub fault_at : ℕ → Kind → Stopped
fault_at n kind = refusal kind (places.Line n) 0

-- what is read, or what is wrong at this line
abbrev pub at_line : {A : Type 0} → ℕ → Result A Kind → Result A Stopped
at_line n (Ok x) = Ok x
at_line n (Err kind) = Err (fault_at n kind)

-- a number that cannot be a definition: an odd one or a constant
abbrev pub is_no_variable : ℕ → Bool
is_no_variable n = (n % 2 == 1) || nat_lt n 2

-- a number that stands where a variable is defined, and cannot be that
abbrev pub misdefines : Role → ℕ → Bool
misdefines roles.Definition n = is_no_variable n
misdefines roles.Literal n = false
misdefines roles.Reset n = false
misdefines roles.Size n = false

-- a definition or a literal above the largest index
abbrev pub exceeds : ℕ → Role → ℕ → Bool
exceeds max_var roles.Definition n = nat_lt (2 * max_var + 1) n
exceeds max_var roles.Literal n = nat_lt (2 * max_var + 1) n
exceeds max_var roles.Reset n = false
exceeds max_var roles.Size n = false

-- a reset that is neither a constant nor the latch's own literal
abbrev pub misresets : ℕ → Role → ℕ → Bool
misresets own roles.Definition n = false
misresets own roles.Literal n = false
misresets own roles.Reset n = not (nat_lt n 2 || (n == own))
misresets own roles.Size n = false

-- a size that makes the sum of those before it too large
abbrev pub oversizes : ℕ → ℕ → Role → ℕ → Bool
oversizes limit before roles.Definition n = false
oversizes limit before roles.Literal n = false
oversizes limit before roles.Reset n = false
oversizes limit before roles.Size n = nat_lt limit (before + n)

-- the literal of the variable that a row is for: its first number where that is the definition, or else the literal
-- that is carried from row to row
abbrev pub own_literal : Role → ℕ → ℕ → ℕ
own_literal roles.Definition carried n = n
own_literal roles.Literal carried n = carried
own_literal roles.Reset carried n = carried
own_literal roles.Size carried n = carried

-- what is carried to the next row: of sizes their sum, and where lines do not tell their variable, the literal of the
-- next variable
abbrev pub carried_on : Role → ℕ → ℕ → ℕ
carried_on roles.Definition carried n = carried
carried_on roles.Literal carried n = carried + 2
carried_on roles.Reset carried n = carried + 2
carried_on roles.Size carried n = carried + n

-- one of the numbers of a row is such in its role
abbrev pub any_number : (Role → ℕ → Bool) → List Role → List ℕ → Bool
any_number test rs ns = list_any (λ p. test p.0 p.1) (zip rs ns)

-- what is wrong with the numbers of a row, where its literals or the sum of sizes may go up to the bound
abbrev pub fault_in_row : Form → ℕ → ℕ → List ℕ → Option Kind
fault_in_row form bound carried ns =
    if any_number misdefines (roles_of form) ns then Some kinds.NotVariable
    else if any_number (exceeds bound) (roles_of form) ns then Some kinds.LiteralRange
    else if any_number (misresets (own_literal form.first carried (slice_index ns 0))) (roles_of form) ns
    then Some kinds.BadReset
    else if any_number (oversizes bound carried) (roles_of form) ns then Some kinds.TooLarge
    else None

abbrev pub unless_wrong : {A : Type 0} → A → Option Kind → Result A Kind
unless_wrong x None = Ok x
unless_wrong x (Some kind) = Err kind

-- the numbers of a row, where there is one
unfoldable pub checked_row : Form → ℕ → ℕ → Option (List ℕ) → Result (List ℕ) Kind
checked_row form bound carried None = Err kinds.BadLine
checked_row form bound carried (Some ns) = unless_wrong ns (fault_in_row form bound carried ns)

-- the row that a line tells
unfoldable pub row_of : Form → ℕ → ℕ → Line → Result (List ℕ) Kind
row_of form bound carried l =
    checked_row form bound carried (numbers_at l.ended form.least (length form.others) l.text)

-- a result and the remaining input
abbrev pub Found : Type 0 → Type 0
Found A = Result (A × Ahead) Stopped

-- what the first of these lines tells, or that none is left
abbrev pub line_found : {A : Type 0} → Kind → (Line → Result A Kind) → ℕ → List Line → Found A
line_found missing tell n [] = Err (fault_at n missing)
line_found missing tell n (l ∷ ls) = do
  found ← at_line n (tell l)
  Ok (found, ahead (n + 1) ls)

-- the row of the next line
abbrev pub row_at : Form → ℕ → ℕ → Ahead → Found (List ℕ)
row_at form bound carried at = line_found kinds.Truncated (row_of form bound carried) at.number at.lines

-- so many rows
unfoldable pub rows_at : Form → ℕ → ℕ → ℕ → Ahead → Found (List (List ℕ))
rows_at form bound carried zero at = Ok ([], at)
rows_at form bound carried (suc count) at = do
  first ← row_at form bound carried at
  others ← rows_at form bound (carried_on form.first carried (slice_index first.0 0)) count first.1
  Ok (first.0 ∷ others.0, others.1)
