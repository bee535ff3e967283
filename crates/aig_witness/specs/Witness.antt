-- Witness files and how they are judged (this project's profile). A witness file has the line `1`; a line `b` with the
-- number of a bad state; a line of the first state, a character for each latch; a line for each step, a character for
-- each input; and the line `.`. With that it ends.
use Rattle.std.specs.Prelude.{◌≡◌, ◌<◌, ◌++◌, ◌==◌, ◌&&◌, ℕ, suc, List, [], ◌∷◌, Bool, true, false, not, Option}
use Rattle.std.specs.Prelude.{None, Some, Result, Ok, Err, codes, length, map, nat_lt, option_map, slice_index_or}
use Rattle.std.specs.Prelude.{if◌then◌else◌}
use Rattle.std.specs.List.{All, list_all}
use Rattle.std.specs.Str.{bytes_eq}
use Rattle.aig_circuit.specs.declared.circuit.Latch.{Latch}
use Rattle.aig_circuit.specs.declared.circuit.Circuit.{Circuit}
use Rattle.aig_circuit.specs.declared.circuit.Reset.{Reset}
use Rattle.aig_circuit.specs.declared.circuit.Reset.TheVariants as resets
use Rattle.aig_circuit.specs.declared.value.Val.{Val}
use Rattle.aig_circuit.specs.declared.value.Val.TheVariants.{Zero, One, X}
use Rattle.aig_meaning.specs.Meaning.{Row}
use Rattle.aig_meaning.specs.Trace.{IsTrace}
use Rattle.aig_rows.specs.CanonicalNumber.{is_padded}
use Rattle.aig_lines.specs.Lines.{Line}
use Rattle.aig_rows.specs.Spelling.{is_digit, value_of as number_of}
use Rattle.aig_witness.specs.declared.verdict.Verdict.{Verdict}
use Rattle.aig_witness.specs.declared.verdict.Verdict.TheVariants.{Confirmed, NotConfirmed}
use Rattle.aig_step.specs.Stimulus.{Entry, Step, Stop, entry_in, judged_lines, text_of, values_of}

-- what a witness file says: that this property is met from this first state, by steps with these inputs
pub record Claim : Type 0 where
  pub property : ℕ
  pub first : List Val
  pub steps : List (List Val)

-- what decides which lines a witness file may have: the letter of the properties that it may name, how many of them
-- there are, and the resets and the number of inputs of the circuit
pub record Shape : Type 0 where
  pub letter : ℕ
  pub properties : ℕ
  pub resets : List Reset
  pub inputs : ℕ

-- where the properties are bad states
abbrev pub shape_of : Circuit → Shape
shape_of c = record {
  letter = 98;
  properties = length c.bad;
  resets = map (λ (l : Latch). l.reset) c.latches;
  inputs = length c.inputs;
}

-- digits, at least one, and no zero before another digit
abbrev pub is_canonical : List ℕ → Bool
is_canonical text = nat_lt 0 (length text) && list_all is_digit text && not (is_padded text)

-- the number that a text spells canonically, where it is below this bound
abbrev pub number_below : ℕ → List ℕ → Option ℕ
number_below bound text = if is_canonical text && nat_lt (number_of text) bound then Some (number_of text) else None

-- the property that a line names by this letter, where there are so many
abbrev pub property_by : ℕ → ℕ → List ℕ → Option ℕ
property_by letter count [] = None
property_by letter count (b ∷ bs) = if b == letter then number_below count bs else None

-- the bad state that a line names, where there are so many
abbrev pub property_in : ℕ → List ℕ → Option ℕ
property_in bad text = property_by 98 bad text

-- whether a latch may start at this value: an uninitialised one at any
abbrev pub may_start_at : Reset → Val → Bool
may_start_at resets.Zero Zero = true
may_start_at resets.Zero One = false
may_start_at resets.Zero X = false
may_start_at resets.One Zero = false
may_start_at resets.One One = true
may_start_at resets.One X = false
may_start_at resets.Uninit v = true

-- whether there is a value for each latch, at which it may start
abbrev pub may_start_in : List Reset → List Val → Bool
may_start_in [] [] = true
may_start_in [] (v ∷ vs) = false
may_start_in (r ∷ rs) [] = false
may_start_in (r ∷ rs) (v ∷ vs) = may_start_at r v && may_start_in rs vs

abbrev pub if_may_start : List Reset → Option (List Val) → Option (List Val)
if_may_start latches None = None
if_may_start latches (Some state) = if may_start_in latches state then Some state else None

-- the first state that a line says, where it agrees with the resets
abbrev pub first_state_in : List Reset → List ℕ → Option (List Val)
first_state_in latches text = if_may_start latches (values_of text)

-- what the lines so far say, and so which line is due
pub data Said : Type 0 where
  -- there was no line: the line `1` is due
  Nothing : Said
  -- the line of the bad state is due
  Version : Said
  -- the line of the first state is due
  Property : ℕ → Said
  -- the line of a step is due, or the line `.`
  Steps : Claim → Said
  -- nothing is due
  Whole : Claim → Said

abbrev pub begun_at : ℕ → List Val → Said
begun_at property first = Steps (record { property = property; first = first; steps = [] })

-- the claim, with a step more or at its end
abbrev pub with_entry : Claim → Entry → Said
with_entry claim (Step given) = Steps (record claim { steps = claim.steps ++ (given ∷ []) })
with_entry claim Stop = Whole claim

-- what is said with one more line of this text, where that is a line that is due
abbrev pub said_with : Shape → Said → List ℕ → Option Said
said_with shape Nothing text = if bytes_eq text (codes "1") then Some Version else None
said_with shape Version text = option_map Property (property_by shape.letter shape.properties text)
said_with shape (Property property) text = option_map (begun_at property) (first_state_in shape.resets text)
said_with shape (Steps claim) text = option_map (with_entry claim) (entry_in shape.inputs text)
said_with shape (Whole claim) text = None

-- what is said with a line of this number and those after it
abbrev pub said_behind : ℕ → Option Said → (Said → Result Said ℕ) → Result Said ℕ
said_behind number None rest = Err number
said_behind number (Some said) rest = rest said

-- what is said with more lines, the first of which has this number; or the number of the first that is wrong
abbrev pub said_by : Shape → ℕ → Said → List Line → Result Said ℕ
said_by shape number said [] = Ok said
said_by shape number said (l ∷ ls) =
    said_behind number (said_with shape said (text_of l)) (λ next. said_by shape (suc number) next ls)

-- what the bytes say that came, which have ended or not
abbrev pub witness_of : Shape → List ℕ → Bool → Result Said ℕ
witness_of shape bytes ended = said_by shape 1 Nothing (judged_lines bytes ended)

abbrev pub is_whole : Said → Bool
is_whole (Whole claim) = true
is_whole said = false

-- the first wrong line, where all that came are right: the one after them, if one is due and no more comes
abbrev pub missing_line : ℕ → Bool → Said → Option ℕ
missing_line lines ended said = if ended && not (is_whole said) then Some (suc lines) else None

abbrev pub wrong_line : ℕ → Bool → Result Said ℕ → Option ℕ
wrong_line lines ended (Ok said) = missing_line lines ended said
wrong_line lines ended (Err number) = Some number

-- the number of the first line that is not as it has to be, or that is missing where the bytes have ended
abbrev pub first_bad_line : Shape → List ℕ → Bool → Option ℕ
first_bad_line shape bytes ended =
    wrong_line (length (judged_lines bytes ended)) ended (witness_of shape bytes ended)

abbrev pub first_bad_witness_line : Circuit → List ℕ → Bool → Option ℕ
first_bad_witness_line c bytes ended = first_bad_line (shape_of c) bytes ended

-- the bytes are a witness file of this shape, which says this
abbrev pub Says : Shape → List ℕ → Claim → Type 0
Says shape bytes claim = witness_of shape bytes true ≡ Ok (Whole claim)

-- the bytes are a witness file of a bad state of the circuit
abbrev pub SaysClaim : Circuit → List ℕ → Claim → Type 0
SaysClaim c bytes claim = Says (shape_of c) bytes claim

-- all constraints are 1
abbrev pub IsHeld : Row → Type 0
IsHeld row = All (λ (v : Val). v ≡ One) row.constraints

-- the bad state is 1
abbrev pub IsBad : ℕ → Row → Type 0
IsBad property row = slice_index_or row.bad property Zero ≡ One

-- Step number `at` confirms that the bad state is reached: it is 1 there, and all constraints are 1 there and in each
-- step before.
pub record IsConfirmedAt (property : ℕ) (rows : List Row) (at : ℕ) : Type 0 where
  pub before : List Row
  pub row : Row
  pub behind : List Row
  pub parted : rows ≡ before ++ (row ∷ behind)
  pub place : at ≡ length before
  pub is_bad : IsBad property row
  pub holds : IsHeld row
  pub held : All IsHeld before

-- the first step that does
pub record IsFirstConfirmed (property : ℕ) (rows : List Row) (at : ℕ) : Type 0 where
  pub confirmed : IsConfirmedAt property rows at
  pub first : (earlier : ℕ) → earlier < at → ¬ IsConfirmedAt property rows earlier

-- the verdict on what these rows show
abbrev pub IsVerdictOf : ℕ → List Row → Verdict → Type 0
IsVerdictOf property rows (Confirmed at) = IsFirstConfirmed property rows at
IsVerdictOf property rows NotConfirmed = (at : ℕ) → ¬ IsConfirmedAt property rows at

-- the verdict on a claim: that on the circuit's trace from its first state
pub record IsVerdict (c : Circuit) (claim : Claim) (verdict : Verdict) : Type 0 where
  pub rows : List Row
  pub trace : IsTrace c claim.first claim.steps rows
  pub is_verdict : IsVerdictOf claim.property rows verdict
