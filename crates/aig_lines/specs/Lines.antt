-- The lines of a text (this project's profile).
use Rattle.std.specs.Prelude.{◌≡◌, ◌≢◌, ◌+◌, ◌==◌, ℕ, List, [], ◌∷◌, ◌++◌, Bool, true, false, length, if◌then◌else◌}
use Rattle.std.specs.List.{AllByRecursion, flat_map}

-- no byte is a line feed
abbrev pub HasNoLineFeed : List ℕ → Type 0
HasNoLineFeed bytes = AllByRecursion (λ (b : ℕ). b ≢ 10) bytes

-- the bytes before the line feed, and whether there is one
pub record Line : Type 0 where
  pub text : List ℕ
  pub ended : Bool

abbrev pub line : List ℕ → Bool → Line
line text ended = record { text = text; ended = ended }

-- what a reader has in front of it: lines, and the number of the first of them
pub record Ahead : Type 0 where
  pub number : ℕ
  pub lines : List Line

abbrev pub ahead : ℕ → List Line → Ahead
ahead number lines = record { number = number; lines = lines }

-- the same place, where more lines come after those
abbrev pub with_lines : Ahead → List Line → Ahead
with_lines at more = ahead at.number (at.lines ++ more)

-- a place further on in the same text
pub record IsBehind (at now : Ahead) : Type 0 where
  pub front : List Line
  pub lines : at.lines ≡ front ++ now.lines
  pub number : now.number ≡ at.number + length front

-- each line has its line feed
abbrev pub AreEnded : List Line → Type 0
AreEnded ls = AllByRecursion (λ (l : Line). l.ended ≡ true) ls

-- the lines, with one more byte at the front of the first
abbrev pub begun_by : ℕ → List Line → List Line
begun_by b [] = line (b ∷ []) false ∷ []
begun_by b (l ∷ ls) = line (b ∷ l.text) l.ended ∷ ls

-- the pieces of a text that end in a line feed and hold no other, and a last piece without one where it is not empty
unfoldable pub lines_of : List ℕ → List Line
lines_of [] = []
lines_of (b ∷ bs) = if b == 10 then line [] true ∷ lines_of bs else begun_by b (lines_of bs)

-- the bytes of a line, its line feed among them
abbrev pub line_bytes : Line → List ℕ
line_bytes l = l.text ++ (if l.ended then 10 ∷ [] else [])

-- the bytes of lines
abbrev pub bytes_of : List Line → List ℕ
bytes_of ls = flat_map line_bytes ls
