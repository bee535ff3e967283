-- What becomes of the lines of a text, and of bytes that come in pieces: two functions, `fold_lines` and `fed`. One law
-- says that they are one.
use Rattle.std.specs.Prelude.{◌≡◌, ◌+◌, ◌==◌, ◌++◌, ℕ, suc, List, [], ◌∷◌, Bool, true, false, not, fold}
use Rattle.std.specs.Prelude.{if◌then◌else◌, length, nat_le}
use Rattle.aig_lines.specs.Lines.{Line}
use Rattle.aig_lines.specs.Texts.{text_of, without_return}

-- what a taker of lines is after a line, and whether it goes on
pub record Turn (S : Type 0) : Type 0 where
  pub state : S
  pub goes_on : Bool

abbrev pub turn : {S : Type 0} → S → Bool → Turn S
turn s goes_on = record { state = s; goes_on = goes_on }

-- a taker stands where its turn led, and answers whether it goes on
abbrev pub TookTurn : {T S : Type 0} → (T → S → Type 0) → T → Bool → Turn S → Type 0
TookTurn IsAt taker answer t = IsAt taker t.state × (answer ≡ t.goes_on)

-- a line of this text: one that is longer than the limit is refused, and the taker does not see it
abbrev pub checked_line : {S : Type 0} → (S → List ℕ → Turn S) → ℕ → S → List ℕ → Turn S
checked_line step limit s text = if nat_le (length text) limit then step s text else turn s false

-- what the lines of a text come to: the taker after them, the number of the line that was refused or else of the line
-- that would be next, and whether one was refused
pub record Folded (S : Type 0) : Type 0 where
  pub state : S
  pub number : ℕ
  pub refused : Bool

abbrev pub folded_to : {S : Type 0} → S → ℕ → Bool → Folded S
folded_to s number refused = record { state = s; number = number; refused = refused }

-- the lines, the first of which has this number, up to the first that is refused
abbrev pub fold_lines : {S : Type 0} → (S → List ℕ → Turn S) → ℕ → S → ℕ → List Line → Folded S
fold_lines step limit s number [] = folded_to s number false
fold_lines step limit s number (l ∷ ls) =
    let t = checked_line step limit s (text_of l) in
    if t.goes_on then fold_lines step limit t.state (suc number) ls else folded_to t.state number true

-- how far bytes were folded: how long a line may be, the taker, the beginning of the line that has not ended, its
-- number, and whether a line was refused; then the number is of that
pub record Feeding (S : Type 0) : Type 0 where
  pub limit : ℕ
  pub state : S
  pub begun : List ℕ
  pub number : ℕ
  pub refused : Bool

-- before the first byte
abbrev pub feeding : {S : Type 0} → ℕ → S → Feeding S
feeding limit s = record { limit = limit; state = s; begun = []; number = 1; refused = false }

-- after a line
abbrev pub behind_line : {S : Type 0} → Feeding S → Turn S → Feeding S
behind_line f t = record {
  limit = f.limit;
  state = t.state;
  begun = [];
  number = if t.goes_on then f.number + 1 else f.number;
  refused = not t.goes_on;
}

-- a line of this text has ended
abbrev pub line_ended : {S : Type 0} → (S → List ℕ → Turn S) → Feeding S → List ℕ → Feeding S
line_ended step f text = behind_line f (checked_line step f.limit f.state text)

-- one more byte
unfoldable pub fold_byte : {S : Type 0} → (S → List ℕ → Turn S) → Feeding S → ℕ → Feeding S
fold_byte step f b =
    if f.refused then f
    else if b == 10 then line_ended step f (without_return f.begun)
    else record f { begun = f.begun ++ b ∷ [] }

-- more bytes
abbrev pub fold_bytes : {S : Type 0} → (S → List ℕ → Turn S) → Feeding S → List ℕ → Feeding S
fold_bytes step f bytes = fold (fold_byte step) f bytes

-- the end of the bytes: a last line without a line feed has ended
abbrev pub ended : {S : Type 0} → (S → List ℕ → Turn S) → Feeding S → Feeding S
ended step f = if f.refused then f else if length f.begun == 0 then f else line_ended step f f.begun

-- the same where the bytes that came are all, and nothing where they are not
abbrev pub ended_if : {S : Type 0} → (S → List ℕ → Turn S) → Bool → Feeding S → Feeding S
ended_if step over f = if over then ended step f else f

-- what the lines so far come to
abbrev pub outcome : {S : Type 0} → Feeding S → Folded S
outcome f = folded_to f.state f.number f.refused
